use Rattle.std.proofs.Common.{[], ◌∷◌, ◌++◌, refl, ap, sym, ◌∙◌, inl, arith}
use Rattle.pas_steps.specs.{declared.step.Step.TheVariants.End, Desks.made}
use Rattle.pas_free_log.{specs.Endings.guess_by, proofs.OneEntry.{known_kind, guess_length, looked, tried, ends_named, ended_run, gone_since, ended_again}}
use Rattle.pas_free_log.proofs.OneEntry.{again, first_look}
use Rattle.pas_free_log.proofs.ending.end_named.Goals as goal

pub guess-first-requires : goal.guess-first-requires
guess-first-requires g c = known_kind c.look-deed.result c.read_deed-directory.result c.read_deed-directory.ensures

pub life_word-requires-clause-grains : goal.life_word-requires-clause-grains
life_word-requires-clause-grains g c = let is = (c.guess-first.ensures ∙ ap guess_by c.read_deed-directory.ensures) in let few = (guess_length c.look-deed.result).1 in omega (arith, is, few)

pub returns-then-read-life_word-clause-ends : goal.returns-then-read-life_word-clause-ends
returns-then-read-life_word-clause-ends g c =
    let is = (c.guess-first.ensures ∙ ap guess_by c.read_deed-directory.ensures) in let some = (guess_length c.look-deed.result).0 in
    let live = c.if-read-life_word.true ∙ c.life_word.ensures in
    ends_named c.args.name _ _ _ _ c.end-read.result [] c.read_deed-directory.ensures (inl (is, refl)) (looked c.args.name _ c.look-deed.ensures.makes) c.end-read.ensures.makes c.requires.can
    (λ v agrees. ((live, refl), ended_run (g.D.Desk.standing _).seat.profile (first_look c.args.name _ ++ v) _ _ _ (omega (arith, is, some)) live agrees))

pub returns-in_default-clause-ends : goal.returns-in_default-clause-ends
returns-in_default-clause-ends g c =
    ends_named _ _ _ _ _ _ [] c.read_deed-directory.ensures (inl ((c.guess-first.ensures ∙ ap guess_by c.read_deed-directory.ensures), refl))
    (looked c.args.name _ c.look-deed.ensures.makes) c.end-read.ensures.makes c.requires.can
    (λ v agrees. ((c.in_default.ensures, refl), tt))

-- the second try
pub returns-then-read-life_word-2-clause-ends : goal.returns-then-read-life_word-2-clause-ends
returns-then-read-life_word-2-clause-ends g c =
    let name = c.args.name in let first = c.guess-first.result in let read = c.end-read.result in
    let live = c.if-read-life_word-2.true ∙ c.life_word-2.ensures in
    let before = made (End name first) read ∷ [] in
    ends_named name _ _ c.look-deed.result c.in-Some.grains _ before c.read_deed-directory.ensures
    (again name c.look-deed.result first _ read (c.guess-first.ensures ∙ ap guess_by c.read_deed-directory.ensures)
    (λ e. c.if-read-life_word.false (e ∙ sym c.life_word.ensures)) c.in-Some.ensures.0 c.in-Some.ensures.1)
    (tried name _ first first read [] (inl (refl, refl)) (looked name _ c.look-deed.ensures.makes) c.end-read.ensures.makes) c.end-read-2.ensures.makes c.requires.can
    (λ v agrees. ((live, refl), ended_again (g.D.Desk.standing c.args.desk.now).seat.profile _ name first c.in-Some.grains read _ c.requires.name c.in-Some.ensures.0 c.in-Some.ensures.1 live agrees))

pub returns-else-read-life_word-2-clause-ends : goal.returns-else-read-life_word-2-clause-ends
returns-else-read-life_word-2-clause-ends g c =
    let name = c.args.name in let first = c.guess-first.result in let read = c.end-read.result in
    let before = made (End name first) read ∷ [] in
    ends_named name _ _ c.look-deed.result c.in-Some.grains _ before c.read_deed-directory.ensures
    (again name c.look-deed.result first _ read (c.guess-first.ensures ∙ ap guess_by c.read_deed-directory.ensures)
    (λ e. c.if-read-life_word.false (e ∙ sym c.life_word.ensures)) c.in-Some.ensures.0 c.in-Some.ensures.1)
    (tried name _ first first read [] (inl (refl, refl)) (looked name _ c.look-deed.ensures.makes) c.end-read.ensures.makes) c.end-read-2.ensures.makes c.requires.can
    (λ v agrees. ((gone_since (g.D.Desk.standing c.args.desk.now).seat.profile _ name first c.in-Some.grains read _ c.in-Some.ensures.0 c.in-Some.ensures.1 agrees.life (λ e. c.if-read-life_word-2.false (e ∙ sym c.life_word-2.ensures)), refl), tt))
