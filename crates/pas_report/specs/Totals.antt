-- The totals of a region, and the report's last line.
use Rattle.std.specs.{Prelude.{ℕ, ◌*◌, List, [], ◌∷◌, ◌++◌, codes}, Fmt.decimal}
use Rattle.pas_bits.specs.Bits.{count_below}
use Rattle.pas_profile.specs.declared.{profile.Profile.Profile, event.Event.Event}
use Rattle.pas_machine.specs.{State.{deed_in, backed_in, live_in, gives_in, ends_in}, Totals.{sum_below, has_deed, has_block, page_at, address_at}}
use Rattle.pas_report.specs.declared.totals.Totals.{Totals}

-- THE TOTALS of the machine that the events reach: its pages with a deed, its backed pages, its live blocks, its gives and its ends
abbrev pub totals_of : Profile → List Event → Totals
totals_of f es = record {
  deeds = count_below f.pages (λ i. has_deed (deed_in es (page_at i)));
  backed = count_below f.pages (λ i. backed_in es (page_at i));
  live = count_below (256 * f.pages) (λ i. has_block (live_in es (address_at i)));
  given = sum_below (256 * f.pages) (λ i. gives_in es (address_at i));
  ended = sum_below (256 * f.pages) (λ i. ends_in es (address_at i));
}

-- the numbers in the order of the line, each with the words before it
abbrev pub fields_of : Totals → List (List ℕ × ℕ)
fields_of t =
    (codes "total deeds ", t.deeds) ∷ (codes " backed ", t.backed) ∷ (codes " live ", t.live) ∷ (codes " given ", t.given) ∷ (codes " ended ", t.ended) ∷ []

abbrev pub fields_text : List (List ℕ × ℕ) → List ℕ
fields_text [] = codes "\n"
fields_text ((words, n) ∷ fields) = words ++ (decimal n ++ fields_text fields)

-- the line
abbrev pub totals_text : Totals → List ℕ
totals_text totals = fields_text (fields_of totals)
