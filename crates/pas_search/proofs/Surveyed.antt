-- What a survey read of the pages so far, and which one it found best.
use Rattle.std.proofs.Common.{◌≡◌, ℕ, zero, suc, ◌+◌, ◌-◌, ◌*◌, ◌/◌, ◌<◌, ◌≤◌, false, List, [], ◌∷◌, ◌++◌, length, Option, None, Some, refl, ap, sym, ◌∙◌}
use Rattle.std.proofs.{Common.{subst, arith, inl, inr, append_assoc, append-nil, length-append}, lemmas.Bool.{cases_lt, cases_eq}}
use Rattle.pas_bits.{specs.{Bits.has_bit, Masks.is_set, declared.mask.Mask4.Mask4}, proofs.Words.at_word}
use Rattle.pas_profile.specs.{Profiles.IsPage, declared.{directory.Directory.Directory, profile.Profile.Profile}}
use Rattle.pas_rights.{specs.{Looks.{looks, ReadsPage}, Words.words}, proofs.Orders.{looks_are, looks_few}}
use Rattle.pas_scan.specs.{Rows.{row_end, row_words, words_to}, Scan.{IsFirstOffered, FindsOffered}}
use Rattle.pas_steps.specs.{Agreement.Agreed, Frames.AreLooks, Past.Once, Evidence.{Readings, ZeroHere, OneHere}, Views.{View, has_right, KnowsDeed}}
use Rattle.pas_steps.{specs.{Desks.{Seat, Standing, AnyView, Adds}, declared.step.Made.Made}, proofs.Adding.{adds_none, adds_call, agreed_first, agreed_later}}
use Rattle.pas_steps.proofs.{Frames.{knows_still, looks_read, right_reads, scans_look, right_own}, Evidence.zero_before, Past.{once_later, once_earlier}}
use Rattle.pas_search.specs.Ranks.{Measure, SeenHere, IsRanked, IsSeen, AllSeen, HasNone, IsNoBetter, IsBestBelow, IsSurvey, IsBetterOf, survey_steps, Surveys}
use Rattle.pas_search.{specs.declared.surveying.Best.Best, proofs.PagesThatServe.{offered_further, row_within}}

-- ---- looks
looks_both : (ys xs : List Made) → AreLooks ys → AreLooks xs → AreLooks (ys ++ xs)
looks_both [] xs a b = b
looks_both (y ∷ ys) xs a b = (a.0, looks_both ys xs a.1 b)

-- they get no right
looks_lack : (p : ℕ) (xs : List Made) → AreLooks xs → has_right xs p ≡ false
looks_lack p xs looks = ap (λ s. has_right s p) (sym (append-nil xs)) ∙ right_reads p xs [] (looks_read xs looks)

-- ---- what is read of a page
-- each free word was read so
looks_seen : (page : ℕ) (answers : ℕ → ℕ) (r : Readings) → ((word b : ℕ) → b < 64 → r (64 * word + b) ≡ has_bit (answers word) b) → (n word : ℕ) → word < n
    → Once (SeenHere page word r) (looks page answers n)
looks_seen page answers r bits zero word lt = absurd (omega (arith, lt))
looks_seen page answers r bits (suc n) word lt = elim (cases_eq word n) [
  | inl e ↦ subst (λ k. Once (SeenHere page k r) (looks page answers (suc n))) (sym e) (inl (refl, bits n))
  | inr ne ↦ inr (looks_seen page answers r bits n word (omega (arith, lt, ne)))
]

module _ (ranks : Measure) (d : Directory) where
  -- the page was read as offered, and then its free words
  page_ranked : (page : ℕ) (free : Mask4) (rank : Option ℕ) (xs : List Made) → ranks (is_set free) rank → Once (OneHere d page) xs
      → IsRanked ranks d page rank (looks page (words free) 4 ++ xs)
  page_ranked page free rank xs ranked offered = record {
    offered = once_later (OneHere d page) (looks page (words free) 4) xs offered;
    readings = is_set free;
    read = λ word lt. once_earlier (SeenHere page word (is_set free)) (SeenHere page word (is_set free)) (looks page (words free) 4) xs (λ m before h. h)
        (looks_seen page (words free) (is_set free) (λ w b small. at_word free w b small) 4 word lt);
    ranked = ranked;
  }

  -- the pages from `next` to below `end` were read as not offered
  all_later : (Holds : ℕ → Option ℕ → Type 0) (next end : ℕ) (ys xs : List Made) → ((p : ℕ) → next ≤ p → p < end → Once (ZeroHere d p) (ys ++ xs))
      → AllSeen ranks d next Holds xs → AllSeen ranks d end Holds (ys ++ xs)
  all_later Holds next end ys xs zeros all p low high = elim (cases_lt p next) [
    | inl lt ↦ search (arith, once_later, (all p low lt))
    | inr ge ↦ inl (zeros p ge high)
  ]

  -- and this page was ranked so
  all_more : (Holds Also : ℕ → Option ℕ → Type 0) (page : ℕ) (rank : Option ℕ) (xs : List Made)
      → ((p : ℕ) (other : Option ℕ) → p < page → Holds p other → Also p other) → IsRanked ranks d page rank xs → Also page rank
      → AllSeen ranks d page Holds xs → AllSeen ranks d (page + 1) Also xs
  all_more Holds Also page rank xs more is here all p low high = elim (cases_eq p page) [
    | inl e ↦ subst (λ q. IsSeen ranks d (Also q) q xs) (sym e) (inr (rank, is, here))
    | inr ne ↦ let lt : p < page = omega (arith, high, ne) in search arith
  ]

  -- ---- the best page
  module _ (f : Profile) where
    best_later : (next end : ℕ) (best : Option Best) (ys xs : List Made) → next ≤ end → ((p : ℕ) → next ≤ p → p < end → Once (ZeroHere d p) (ys ++ xs))
        → IsSurvey f ranks d next xs best → IsSurvey f ranks d end (ys ++ xs) best
    best_later next end None ys xs le zeros all = all_later HasNone next end ys xs zeros all
    best_later next end (Some best) ys xs le zeros is = record {
      page = is.page;
      below = omega (arith, is.below, le);
      this = search (arith, once_later);
      others = all_later (IsNoBetter best.page best.rank) next end ys xs zeros is.others;
      deed = λ v agreed. rw append_assoc (knows_still f d best.page ys (xs ++ v) (agreed_first f v ys xs agreed) (is.deed v (agreed_later f v ys xs agreed)));
      lacks = λ v agreed. is.lacks v (agreed_later f v ys xs agreed);
    }

    -- one more page that was read as offered
    module _ (page : ℕ) (xs : List Made) (here : IsPage f page) (deed : (v : View) → Agreed f v xs → KnowsDeed page d (xs ++ v)) (lacks : (v : View)
        → Agreed f v xs → has_right v page ≡ false) where
      -- the pages so far that have none, or a worse one
      new_best : (rank : ℕ) (Holds : ℕ → Option ℕ → Type 0) → ((p : ℕ) (other : Option ℕ) (n : ℕ) → Holds p other → other ≡ Some n → rank < n)
          → IsRanked ranks d page (Some rank) xs → AllSeen ranks d page Holds xs
          → IsBestBelow f ranks d (page + 1) (record { page = page; rank = rank }) xs
      new_best rank Holds worse is all = record {
        page = here;
        below = omega arith;
        this = is;
        others = all_more Holds (IsNoBetter page rank) page (Some rank) xs (λ p other lt holds n e. let more = worse p other n holds e in
            (omega (arith, more), λ same. absurd (omega (arith, more, same)))) is
            (λ n e. let same : rank ≡ n = cc in (omega (arith, same), λ back. omega arith)) all;
        deed = deed;
        lacks = lacks;
      }

      best_more : (best : Option Best) (rank : Option ℕ) (better : Option Best) → IsBetterOf best page rank better → IsRanked ranks d page rank xs
          → IsSurvey f ranks d page xs best → IsSurvey f ranks d (page + 1) xs better
      best_more None None better so is all = rw (so.old (λ n e. absurd cc)) (all_more HasNone HasNone page None xs (λ p other lt holds. holds) is refl all)
      best_more (Some best) None better so is old =
          subst (IsSurvey f ranks d (page + 1) xs) (sym (so.old (λ n e. absurd cc))) (search (arith, all_more))
      best_more None (Some rank) better so is all =
          subst (IsSurvey f ranks d (page + 1) xs) (sym (so.new rank refl tt)) (new_best rank HasNone (λ p other n holds e. absurd cc) is all)
      best_more (Some best) (Some rank) better so is old = search (arith, cases_lt, new_best, all_more)

-- ---- the survey so far
pub record SurveysTo (ranks : Measure) (d : Directory) (next : ℕ) (best : Option Best) (desk desk' : Standing) : Type 0 where
  pub steps : List Made
  pub adds : Adds desk desk' AnyView steps
  pub looks : AreLooks steps
  pub within : next ≤ desk.seat.profile.pages + 1
  pub few : length steps ≤ survey_steps (row_words desk.seat.profile.pages) (next - 1)
  pub outcome : IsSurvey desk.seat.profile ranks d next steps best

pub none_yet : {σ : Standing} (ranks : Measure) (d : Directory) (next : ℕ) → next ≡ 1 → SurveysTo ranks d next None σ σ
none_yet ranks d next first = record {
  steps = [];
  adds = adds_none;
  looks = tt;
  within = omega (arith, first);
  few = omega arith;
  outcome = λ p low high. absurd (omega (arith, low, high, first));
}

module _ {ranks : Measure} {d : Directory} {next : ℕ} {best : Option Best} {σ0 σ : Standing} (surveys : SurveysTo ranks d next best σ0 σ) where
  abbrev f : Profile
  f = σ0.seat.profile

  abbrev earlier : List Made
  earlier = surveys.steps

  -- all pages were read
  pub all_surveyed : f.pages < next → Surveys ranks d σ0 σ best
  all_surveyed past =
      let end : next ≡ f.pages + 1 = omega (arith, past, surveys.within) in let last : next - 1 ≡ f.pages = omega (arith, end) in record {
        steps = earlier;
        adds = surveys.adds;
        looks = surveys.looks;
        few = subst (λ n. length earlier ≤ survey_steps (row_words f.pages) n) last surveys.few;
        outcome = subst (λ n. IsSurvey f ranks d n earlier best) end surveys.outcome;
      }

  -- no page is offered any more
  pub none_further : {σ1 : Standing} {d' : Directory} → d' ≡ d → {next' : ℕ} → 1 ≤ next → next ≤ f.pages → FindsOffered d' next σ σ1 next' None
      → Surveys ranks d σ0 σ1 best
  none_further {σ1} same {next'} some low found =
      let find : FindsOffered d next σ σ1 next' None = subst (λ x. FindsOffered x next σ σ1 next' None) same found in
      let pages : σ.seat.profile.pages ≡ f.pages = ap (λ (s : Seat). s.profile.pages) surveys.adds.seat_is in
      record {
        steps = find.steps ++ earlier;
        adds = adds_call {D = AnyView} surveys.adds find.adds (λ v l stood met. tt);
        looks = looks_both find.steps earlier (scans_look find.steps find.scans) surveys.looks;
        few = let all = offered_further 3 (row_words f.pages) {end = f.pages / 64 + 1} (omega (arith, some, low)) low (omega arith) in
            omega (arith, surveys.few, find.count, pages, all, length-append find.steps earlier);
        outcome = best_later ranks d f next (f.pages + 1) best find.steps earlier (omega (arith, low))
            (λ p low high. zero_before d p find.steps earlier (looks_lack p earlier surveys.looks)
            (find.outcome.1 p low (omega (arith, high, pages)))) surveys.outcome;
      }

  module _ {σ1 : Standing} {d' : Directory} (same : d' ≡ d) {next' page : ℕ} (found : FindsOffered d' next σ σ1 next' (Some page)) where
    -- The page that the survey goes on with, as it was found.
    find : FindsOffered d next σ σ1 next' (Some page)
    find = subst (λ x. FindsOffered x next σ σ1 next' (Some page)) same found

    -- It is the lowest one from there on that was read as offered.
    first : IsFirstOffered f d next find.steps page
    first = subst (λ (s : Seat). IsFirstOffered s.profile d next find.steps page) surveys.adds.seat_is find.outcome.1

    abbrev looked : List Made
    looked = find.steps ++ earlier

    pub next_is : next' ≡ page + 1
    next_is = find.outcome.0

    -- Its bit was read as 1, in the steps with the looks at its grains, too.
    offered : Once (OneHere d page) looked
    offered = search (arith, once_earlier, right_own, looks_lack)

    module _ {σ2 : Standing} (free : Mask4) (reads : ReadsPage page σ1 σ2 free) (rank : Option ℕ) (ranked : ranks (is_set free) rank) where
      abbrev ys : List Made
      ys = looks page (words free) 4

      at_page : IsSurvey f ranks d page (ys ++ looked) best
      at_page = best_later ranks d f page page best ys looked (omega arith) (λ p low high. absurd (omega (arith, low, high)))
          (best_later ranks d f next page best find.steps earlier first.from_next
          (λ p low high. zero_before d p find.steps earlier (looks_lack p earlier surveys.looks) (first.lower p low high)) surveys.outcome)

      pub page_surveyed : {best' : Option Best} → IsBetterOf best page rank best' → SurveysTo ranks d next' best' σ0 σ2
      page_surveyed {best'} is =
          let counted : length find.steps ≡ words_to f next page = search arith in
          let further = offered_further 3 (row_words f.pages) {end = row_end f page} first.of_region.0 first.from_next (row_within f page first.of_region.1) in
          let short = looks_few page (words free) 4 in
          let past : page ≡ next' - 1 = omega (arith, next_is) in record {
            steps = ys ++ looked;
            adds = adds_call {D = AnyView} (adds_call {D = AnyView} surveys.adds find.adds (λ v l stood met. tt)) reads (λ v l stood met. tt);
            looks = looks_both ys looked (looks_are page (words free) 4) (looks_both find.steps earlier (scans_look find.steps find.scans) surveys.looks);
            within = omega (arith, next_is, first.of_region.1);
            few = subst (λ n. length (ys ++ looked) ≤ survey_steps (row_words f.pages) n) past
                (omega (arith, surveys.few, counted, further, short, length-append ys looked, length-append find.steps earlier));
            outcome = subst (λ n. IsSurvey f ranks d n (ys ++ looked) best') (sym next_is)
                (best_more ranks d f page (ys ++ looked) first.of_region
                (λ v agreed. search (arith, append_assoc, knows_still, agreed_first))
                (λ v agreed. sym (right_reads page earlier v (looks_read earlier surveys.looks))
                ∙ first.lacks (earlier ++ v) (agreed_first f v find.steps earlier (agreed_later f v ys looked agreed)))
                best rank best' is (page_ranked ranks d page free rank looked ranked offered) at_page);
          }
