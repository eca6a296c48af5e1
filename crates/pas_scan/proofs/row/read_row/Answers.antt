use Rattle.std.proofs.Common.{◌∙◌, ◌∷◌, [], ◌-◌, refl, subst, arith, rules}
use Rattle.pas_profile.specs.{Directories.number_of, declared.word.Word.Word}
use Rattle.pas_steps.{specs.{declared.step.Step.TheVariants.Look, Desks.{Makes, made}}, proofs.Adding.{adds_none, adds_step}}
use Rattle.pas_scan.proofs.Reading.{looks_more, zero_row, words_more, rest_more}
use Rattle.pas_scan.proofs.row.read_row.Goals as goal

pub loop-word-init : goal.loop-word-init
loop-word-init g c = record {
  steps = [];
  adds = adds_none;
  answers = [];
  order = refl;
  at = omega arith;
  words = λ b low high. absurd (omega (arith, low, high));
  rest = λ b low. zero_row _;
  long = refl;
  home = refl;
}

pub loop-word-preserved : goal.loop-word-preserved
loop-word-preserved g c =
    let i = c.loop-word.invariant in let D = g.D.Desk in let number = number_of c.args.directory in let word = c.loop-word.word in let a = c.look.result in
    let makes = subst (λ n. Makes (D.standing c.loop-word.desk) (D.standing c.look.new.self) (Look (Word.Eligible n word)) a) c.number-number.ensures c.look.ensures.makes in
    let room = c.requires.few in
    record {
      steps = made (Look (Word.Eligible number word)) a ∷ i.steps;
      adds = adds_step i.adds makes (λ v l stood met. tt);
      answers = a ∷ i.answers;
      order = looks_more (λ j. Word.Eligible number j) _ word a i.steps i.answers i.at i.order;
      at = omega (arith, i.at);
      words = words_more number _ word a c.loop-word.row i.steps (omega (arith, i.at)) (omega (arith, i.long, room, c.loop-word-test.true)) i.words;
      rest = rest_more _ word a c.loop-word.row (omega (arith, i.at)) i.rest;
      long = search rules;
      home = c.look.ensures.home ∙ i.home;
    }

pub returns-clause-reads : goal.returns-clause-reads
returns-clause-reads g c =
    let i = c.loop-word.invariant in let past = c.loop-word-test.false in let last = c.loop-word.auto.word-end c.requires.some in record {
      steps = i.steps;
      adds = i.adds;
      answers = i.answers;
      order = i.order;
      count = omega (arith, i.at, past, last);
      words = λ b low high. i.words b low (omega (arith, high, past));
      rest = λ b low. i.rest b (omega (arith, low, last));
    }
