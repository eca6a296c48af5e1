use Rattle.std.proofs.Common.{◌∙◌, ◌∷◌, [], List, ℕ, sym, subst}
use Rattle.pas_profile.specs.{Layouts.words_of, Profiles.IsWordIn}
use Rattle.pas_shared.{specs.{declared.rule.Roster.TheVariants.Unused, Ruled.AreAfterOneList}, proofs.Opened.begins}
use Rattle.pas_shared.proofs.region.Opening.try_new.Goals as goal

pub of_words-requires : goal.of_words-requires
of_words-requires c =
    let f = c.args.profile in
    let layout = c.new-layout.result in
    let pages = c.new-layout.ensures.pages in
    let heaps = c.new-layout.ensures.heaps in
    let words = c.in_ok-words.words in
    let sized = sym words.ok.0 ∙ c.in_ok-words.ensures.sized ∙ (λ i. words_of (pages i) (heaps i)) in
    subst (λ (ws : List ℕ). AreAfterOneList f ws (Unused 0 ∷ [])) (sym c.deref.ensures.value)
    (begins f words.items sized (λ w hw. cc (c.in_ok-words.ensures.values w (subst (λ (z : ℕ × ℕ). IsWordIn z.0 z.1 w) (λ i. (sym pages i, sym heaps i)) hw))))
