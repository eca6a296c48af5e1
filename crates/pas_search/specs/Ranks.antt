-- A search that takes the page which a rule ranks best.
use Rattle.std.specs.Prelude.{ℕ, ◌+◌, ◌%◌, ◌*◌, ◌<◌, ◌≤◌, ◌≡◌, ◌⊎◌, Bool, true, false, List, ◌∷◌, ◌++◌, length, Option, None, Some, MatchOption, Result, Ok}
use Rattle.pas_bits.specs.Bits.{has_bit}
use Rattle.pas_profile.specs.{Directories.number_of, Profiles.IsPage, declared.{directory.Directory.Directory, event.NoRoom.NoRoom, profile.Profile.Profile}}
use Rattle.pas_profile.specs.declared.word.Word.{Word}
use Rattle.pas_steps.specs.{Agreement.Agreed, Calls.{Leads, nothing, Does}, Frames.AreLooks, Lists.Whole, Past.Once, Unknown.HasRoom, Desks.{Standing, AnyView}}
use Rattle.pas_steps.specs.{Desks.{Adds, triples, made}, Evidence.{Readings, ZeroHere, OneHere, UnfitHere}, Views.{View, has_right, known_deed, KnowsDeed}}
use Rattle.pas_steps.specs.declared.step.{Made.Made, Step.TheVariants.{Look, TakeRight}}
use Rattle.pas_core.specs.{Fits.IsOfferedFit, Rights.{eligible_bit, free_of_page}}
use Rattle.pas_scan.specs.Rows.{row_words}
use Rattle.pas_search.specs.{Kinds.{AreSearch, AreQuiet, deeds_made}, Serving.Rule, Searches.{offered_steps, MaySearch, Finds, Searches}}
use Rattle.pas_search.specs.declared.{serving.Served.Served, surveying.Best.Best}

-- ---- what a rule means
-- whether a page has this rank, or none, where these of its grains were read as free
abbrev pub Measure : Type 1
Measure = Readings → Option ℕ → Type 0

-- it depends on the page's 256 grains alone
abbrev pub IsOfGrains : Measure → Type 0
IsOfGrains ranks = (r same : Readings) (rank : Option ℕ) → ((b : ℕ) → b < 256 → r b ≡ same b) → ranks r rank → ranks same rank

-- ---- what is asked
-- The actor may search, and has no right of a page whose deed it doesn't know: a search that follows a try may go on with what the try taught of deeds.
-- No actor of a region ever has such a right.
pub record MayRank (d : Directory) (v : View) : Type 0 where
  pub may : MaySearch d v
  pub known : (p : ℕ) → known_deed v p ≡ 0 → has_right v p ≡ false

-- and it has the room of a search
pub record RankRoom (f : Profile) (d : Directory) (n spare : ℕ) (v : View) : Type 0 where
  pub may : MayRank d v
  pub room : HasRoom f n spare v

-- ---- what a survey reads of a page
-- this look shows a free word of the page so
abbrev pub SeenHere : ℕ → ℕ → Readings → Made → List Made → Type 0
SeenHere page word r m before = (m.step ≡ Look (Word.Free page word)) × ((b : ℕ) → b < 64 → r (64 * word + b) ≡ has_bit m.answer b)

-- the page was read as offered, and its free words so that it has this rank, or none
pub record IsRanked (ranks : Measure) (d : Directory) (page : ℕ) (rank : Option ℕ) (steps : List Made) : Type 0 where
  pub offered : Once (OneHere d page) steps
  pub readings : Readings
  pub read : (word : ℕ) → word < 4 → Once (SeenHere page word readings) steps
  pub ranked : ranks readings rank

-- the page was read as not offered, or as offered and with a rank of which this holds
abbrev pub IsSeen : Measure → Directory → (Option ℕ → Type 0) → ℕ → List Made → Type 0
IsSeen ranks d Holds page steps = Once (ZeroHere d page) steps ⊎ ((rank : Option ℕ) × IsRanked ranks d page rank steps × Holds rank)

-- so was each page below `end`
abbrev pub AllSeen : Measure → Directory → ℕ → (ℕ → Option ℕ → Type 0) → List Made → Type 0
AllSeen ranks d end Holds steps = (page : ℕ) → 1 ≤ page → page < end → IsSeen ranks d (Holds page) page steps

-- ---- the best one
-- the page has no rank
abbrev pub HasNone : ℕ → Option ℕ → Type 0
HasNone page rank = rank ≡ None

-- the other page isn't better: where it has a rank, that is no lower, and where the two are equal the page itself is no higher
abbrev pub IsNoBetter : ℕ → ℕ → ℕ → Option ℕ → Type 0
IsNoBetter page rank other other_rank = (n : ℕ) → other_rank ≡ Some n → (rank ≤ n) × (n ≡ rank → page ≤ other)

-- The page has this rank, and no page below `end` is better. Its deed is known then, and the actor hadn't its right.
pub record IsBestBelow (f : Profile) (ranks : Measure) (d : Directory) (end : ℕ) (best : Best) (steps : List Made) : Type 0 where
  pub page : IsPage f best.page
  pub below : best.page < end
  pub this : IsRanked ranks d best.page (Some best.rank) steps
  pub others : AllSeen ranks d end (IsNoBetter best.page best.rank) steps
  pub deed : (v : View) → Agreed f v steps → KnowsDeed best.page d (steps ++ v)
  pub lacks : (v : View) → Agreed f v steps → has_right v best.page ≡ false

-- the best of the pages below `end`, or none where none has a rank
abbrev pub IsSurvey : Profile → Measure → Directory → ℕ → List Made → Option Best → Type 0
IsSurvey f ranks d end steps best = MatchOption best (AllSeen ranks d end HasNone steps) (λ found. IsBestBelow f ranks d end found steps)

-- the rank is lower than that of the best page so far, if there is one
abbrev pub IsLower : ℕ → Option Best → Type 0
IsLower n best = MatchOption best (Unit {0}) (λ old. n < old.rank)

-- the better one of the best page so far and a higher page: that of the lower rank, and the first one among equals
pub record IsBetterOf (best : Option Best) (page : ℕ) (rank : Option ℕ) (better : Option Best) : Type 0 where
  pub new : (n : ℕ) → rank ≡ Some n → IsLower n best → better ≡ Some (record { page = page; rank = n })
  pub old : ((n : ℕ) → rank ≡ Some n → IsLower n best → ⊥) → better ≡ best

-- ---- the survey
-- of the pages up to this one: a look at each eligible word, and for each page those at the words of its row, which may be looked at again, and four looks
-- at its free words
abbrev pub survey_steps : ℕ → ℕ → ℕ
survey_steps words page = offered_steps 3 words page

-- Each page of the region was read, by looks alone.
pub record Surveys (ranks : Measure) (d : Directory) (desk desk' : Standing) (best : Option Best) : Type 0 where
  pub steps : List Made
  pub adds : Adds desk desk' AnyView steps
  pub looks : AreLooks steps
  pub few : length steps ≤ survey_steps (row_words desk.seat.profile.pages) desk.seat.profile.pages
  pub outcome : IsSurvey desk.seat.profile ranks d (desk.seat.profile.pages + 1) steps best

-- ---- the try
-- the best page of a survey was claimed, and then the back end made these steps or none
pub record TriesPage (f : Profile) (ranks : Measure) (d : Directory) (page : ℕ) (steps : List Made) : Type 0 where
  pub surveyed : List Made
  pub looks : AreLooks surveyed
  pub rank : ℕ
  pub best : IsBestBelow f ranks d (f.pages + 1) (record { page = page; rank = rank }) surveyed
  pub claim : ℕ
  pub serve : List Made
  pub steps_are : steps ≡ serve ++ (made (TakeRight page d) claim ∷ surveyed)

-- its right was got. No deed was made
pub record FromSurvey (f : Profile) (ranks : Measure) (d : Directory) (page : ℕ) (steps : List Made) : Type 0 where
  pub tries : TriesPage f ranks d page steps
  pub got : has_bit tries.claim (page % 64) ≡ true
  pub no_deed : deeds_made steps ≡ 0

-- another actor was first, or nothing fitted any more
pub record MissesBest (no_fit : Readings → Type 0) (f : Profile) (ranks : Measure) (d : Directory) (steps : List Made) : Type 0 where
  pub page : ℕ
  pub tries : TriesPage f ranks d page steps
  pub missed : (has_bit tries.claim (page % 64) ≡ false) ⊎ Once (UnfitHere no_fit page) steps

-- no page has a rank, or the best one was missed. All is as it was, and no event was made.
pub record ComesToNothing (no_fit : Readings → Type 0) (f : Profile) (ranks : Measure) (d : Directory) (steps : List Made) : Type 0 where
  pub still : Leads f (MaySearch d) (Does nothing) steps
  pub quiet : AreQuiet steps
  pub why : (AreLooks steps × AllSeen ranks d (f.pages + 1) HasNone steps) ⊎ MissesBest no_fit f ranks d steps

-- the best page serves
abbrev pub FindsBest : {F : Type 0} → Rule F → Profile → Measure → Directory → List Made → Served F → Type 0
FindsBest rule f ranks d steps served = Finds rule f d (FromSurvey f ranks d served.page) steps served

-- ---- what it says of the state at entry, on a desk that tells the whole state
-- the page was offered and fitted, and no page that was offered had a better rank
pub record IsBestOffered (no_fit : Readings → Type 0) (f : Profile) (ranks : Measure) (d : Directory) (l : Whole) (page : ℕ) : Type 0 where
  pub this : IsOfferedFit no_fit f d l page
  pub rank : ℕ
  pub ranked : ranks (free_of_page l page) (Some rank)
  pub best : (other : ℕ) → IsPage f other → eligible_bit l (number_of d) other ≡ true
      → (other_rank : Option ℕ) × ranks (free_of_page l other) other_rank × IsNoBetter page rank other other_rank

-- ---- one try of the best page
-- at most the steps of the survey, a claim and the back end's steps
abbrev pub try_steps : ℕ → ℕ → ℕ
try_steps each pages = survey_steps (row_words pages) pages + 1 + each

pub record TriesBest {F : Type 0} (rule : Rule F) (ranks : Measure) (tells : Bool) (d : Directory) (desk desk' : Standing)
    (found : Option (Served F)) : Type 0 where
  pub steps : List Made
  pub adds : Adds desk desk' (MaySearch d) steps
  pub searches : AreSearch steps
  pub few : length steps ≤ try_steps rule.steps desk.seat.profile.pages
  pub outcome : MatchOption found (ComesToNothing rule.no_fit desk.seat.profile ranks d steps) (FindsBest rule desk.seat.profile ranks d steps)
  pub told : tells ≡ true → (v : View) (l : Whole) → desk.stands v l → MaySearch d v
      → MatchOption found (Unit {0}) (λ served. IsBestOffered rule.no_fit desk.seat.profile ranks d l served.page)

-- ---- a search that falls back
-- the view and the list are such with these steps added
pub record StoodBefore (desk : Standing) (Meets : View → Type 0) (steps : List Made) (v : View) (l : Whole) : Type 0 where
  pub view : View
  pub whole : Whole
  pub stood : desk.stands view whole
  pub met : Meets view
  pub view_is : v ≡ steps ++ view
  pub whole_is : l ≡ triples desk.seat.actor steps ++ whole

-- what a desk means that made these steps, from views that met the condition
abbrev pub having_made : Standing → (View → Type 0) → List Made → Standing
having_made desk Meets steps = record { seat = desk.seat; stands = StoodBefore desk Meets steps }

-- A try came to nothing. From there on this was done.
pub record FallsBack (no_fit : Readings → Type 0) (each : ℕ) (ranks : Measure) (d : Directory) (desk : Standing) (Goes : Standing → Type 0) : Type 0 where
  pub tried : List Made
  pub agreed : (v : View) (l : Whole) → desk.stands v l → MayRank d v → Agreed desk.seat.profile v tried
  pub searches : AreSearch tried
  pub few : length tried ≤ try_steps each desk.seat.profile.pages
  pub outcome : ComesToNothing no_fit desk.seat.profile ranks d tried
  pub goes : Goes (having_made desk (MayRank d) tried)

-- The best page serves, or the try came to nothing and the search of the directory followed.
abbrev pub SearchesByRank : {F : Type 0} → Rule F → Measure → Bool → Directory → Standing → Standing → Result (Served F) NoRoom → Type 0
SearchesByRank {F} rule ranks tells d desk desk' answer =
    ((served : Served F) × (answer ≡ Ok served) × TriesBest rule ranks tells d desk desk' (Some served))
    ⊎ FallsBack rule.no_fit rule.steps ranks d desk (λ tried. Searches rule tells d tried desk' answer)
