-- each arm makes the step's new value of its word
use Rattle.std.{proofs.Common.{◌==◌, ◌+◌, ◌/◌, bit_and, bit_or, refl, ap, sym, ◌∙◌, w64}, specs.Int.bit_not}
use prog.Atomic.{either}
use Rattle.pas_profile.specs.{Directories.deed_word_of, Lives.live_word}
use Rattle.pas_shared.proofs.Ruling.{may_make, either_if}
use Rattle.pas_shared.proofs.exchange.exchange.Goals as goal

pub load-requires : goal.load-requires
load-requires g c = may_make c.requires.place c.requires.step c.requires.at c.in-Look.is (λ n. refl)

pub compare_exchange-requires : goal.compare_exchange-requires
compare_exchange-requires g c = may_make c.requires.place c.requires.step c.requires.at c.in-Deed.is
    (λ n. either_if (n == 0) (deed_word_of c.in-Deed.directory) n ∙ ap (λ x. either (n == 0) x n) (sym c.deed_word.ensures))

pub fetch_and-requires : goal.fetch_and-requires
fetch_and-requires g c = may_make c.requires.place c.requires.step c.requires.at c.in-Take.is (λ n. refl)

pub fetch_or-requires : goal.fetch_or-requires
fetch_or-requires g c = may_make c.requires.place c.requires.step c.requires.at c.in-Put.is (λ n. refl)

pub swap-requires : goal.swap-requires
swap-requires g c = may_make c.requires.place c.requires.step c.requires.at c.in-Give.is (λ n. sym c.life_word-word.ensures)

pub compare_exchange-requires-in-End : goal.compare_exchange-requires-in-End
compare_exchange-requires-in-End g c = may_make c.requires.place c.requires.step c.requires.at c.in-End.is (λ n. either_if (n == live_word c.in-End.name.turn c.in-End.guess) (c.in-End.name.turn + 1) n ∙ ap (λ x. either (n == x) (c.in-End.name.turn + 1) n) (sym c.life_word-word-in-End.ensures))

pub compare_exchange-requires-in-EndSized : goal.compare_exchange-requires-in-EndSized
compare_exchange-requires-in-EndSized g c = may_make c.requires.place c.requires.step c.requires.at c.in-EndSized.is (λ n. either_if (n == live_word c.in-EndSized.name.turn (c.in-EndSized.room / 16)) (c.in-EndSized.name.turn + 1) n ∙ ap (λ x. either (n == x) (c.in-EndSized.name.turn + 1) n) (sym c.life_word-live.ensures))

pub fetch_and-requires-in-TakeRight : goal.fetch_and-requires-in-TakeRight
fetch_and-requires-in-TakeRight g c = may_make c.requires.place c.requires.step c.requires.at c.in-TakeRight.is (λ n. ap (λ x. bit_and n (bit_not w64 x)) (sym c.page_mask.ensures))

pub fetch_or-requires-in-Offer : goal.fetch_or-requires-in-Offer
fetch_or-requires-in-Offer g c = may_make c.requires.place c.requires.step c.requires.at c.in-Offer.is (λ n. ap (bit_or n) (sym c.page_mask-in-Offer.ensures))

pub fetch_or-requires-in-Park : goal.fetch_or-requires-in-Park
fetch_or-requires-in-Park g c = may_make c.requires.place c.requires.step c.requires.at c.in-Park.is (λ n. ap (bit_or n) (sym c.page_mask-in-Park.ensures))

pub fetch_max-requires : goal.fetch_max-requires
fetch_max-requires g c = may_make c.requires.place c.requires.step c.requires.at c.in-Tick.is (λ n. refl)

pub swap-requires-in-Unback : goal.swap-requires-in-Unback
swap-requires-in-Unback g c = may_make c.requires.place c.requires.step c.requires.at c.in-Unback.is (λ n. refl)

pub fetch_and-requires-in-Unhint : goal.fetch_and-requires-in-Unhint
fetch_and-requires-in-Unhint g c = may_make c.requires.place c.requires.step c.requires.at c.in-Unhint.is (λ n. ap (λ x. bit_and n (bit_not w64 x)) (sym c.page_mask-in-Unhint.ensures))
