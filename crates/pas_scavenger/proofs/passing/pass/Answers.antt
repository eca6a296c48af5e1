use Rattle.std.proofs.Common.{◌≡◌, [], ◌∷◌, ◌++◌, length, refl, ap, sym, ◌∙◌, subst, arith, add-one, length-append}
use Rattle.pas_profile.specs.Profiles.{vector_words}
use Rattle.pas_steps.{specs.InTurn.numbers_below, proofs.Called.next_call}
use Rattle.pas_utility.specs.Outcomes.{pairs_in}
use Rattle.pas_scavenger.{specs.Passes.{WordRead, WordSteps, all_tried}, proofs.Examinations.{tries_then, tries_nothing, is_ready, first_room, passed}}
use Rattle.pas_scavenger.proofs.Examinations.{spare_pass}
use Rattle.pas_scavenger.proofs.passing.pass.Goals as goal

pub loop-block-init : goal.loop-block-init
loop-block-init g c =
    let D = g.D.Desk in let found = pairs_in c.clear.new.self in
    let same = first_room _ c.look-epoch.ensures.makes _ _ c.requires.can
    (λ v l stood. g.met.D.Desk.spares c.args.desk.now v l stood) (λ v l stood. g.met.D.Desk.spares c.look-epoch.new.self v l stood) in
    let pages = ap (λ s. s.profile.pages) c.look-epoch.ensures.makes.seat_is in let room = c.requires.room in
    record {
      words = [];
      numbers_are = refl;
      read = [];
      order = refl;
      tries = tries_nothing _ found c.clear.ensures.empty;
      few = omega arith;
      room = omega (arith, same, pages, room);
      left = let none = ap (λ (xs : _). length xs) c.clear.ensures.empty in omega (arith, none);
      places = c.clear.ensures.size;
      home = c.look-epoch.ensures.home;
    }

pub read_word-requires-clause-can : goal.read_word-requires-clause-can
read_word-requires-clause-can g c = next_call c.loop-block.invariant.tries.calls (is_ready _ c.look-epoch.ensures.makes c.requires.can) (λ v met is. is)

pub loop-block-preserved : goal.loop-block-preserved
loop-block-preserved g c =
    let i = c.loop-block.invariant in let r = c.read_word.ensures.reads in let epoch = c.look-epoch.result in let block = c.loop-block.block in
    let same = i.tries.calls.adds.seat_is in let word : WordRead = record { number = block; value = r.value; tried = r.tried } in
    record {
      words = word ∷ i.words;
      numbers_are = ap (λ ns. block ∷ ns) i.numbers_are ∙ sym (ap numbers_below (add-one block));
      read = r.steps ++ i.read;
      order = (r.steps, i.read, subst (λ s. WordSteps s.profile.age epoch word r.steps) same r.order, i.order, refl);
      tries = tries_then i.tries r.tries;
      few = let n = length-append r.steps i.read in let m = length-append r.tried (all_tried i.words) in omega (arith, n, m, r.few, i.few);
      room = let pages = ap (λ s. s.profile.pages) same in omega (arith, pages, c.read_word.ensures.room);
      left = omega (arith, c.read_word.ensures.few);
      places = c.read_word.ensures.places ∙ i.places;
      home = c.read_word.ensures.home ∙ i.home;
    }

pub returns-clause-passes : goal.returns-clause-passes
returns-clause-passes g c =
    let i = c.loop-block.invariant in let few = i.few in
    let pages = ap (λ f. f.pages) c.profile.ensures in let high = c.loop-block.auto.block-end in let low = c.loop-block-test.false in
    let all : c.loop-block.block ≡ vector_words (g.D.Desk.standing c.look-epoch.new.self).seat.profile.pages = omega (arith, pages, high, low) in
    passed _ c.look-epoch.ensures.makes i.words i.read _ (i.numbers_are ∙ ap numbers_below all) i.order i.tries (omega (arith, few, all))

pub returns-clause-spare : goal.returns-clause-spare
returns-clause-spare g c =
    let D = g.D.Desk in let i = c.loop-block.invariant in let few = i.few in
    let pages = ap (λ f. f.pages) c.profile.ensures in let high = c.loop-block.auto.block-end in let low = c.loop-block-test.false in
    let all : c.loop-block.block ≡ vector_words (D.standing c.look-epoch.new.self).seat.profile.pages = omega (arith, pages, high, low) in
    spare_pass _ _
    (passed _ c.look-epoch.ensures.makes i.words i.read _ (i.numbers_are ∙ ap numbers_below all) i.order i.tries (omega (arith, few, all))) c.requires.can
    (λ v l stood. g.met.D.Desk.spares c.args.desk.now v l stood) (λ v l stood. g.met.D.Desk.spares c.loop-block.desk v l stood)
