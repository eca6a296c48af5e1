-- While a keeper's guard is up, its outer pages stand whole and bare.
use Rattle.std.proofs.Common.{◌≡◌, ℕ, ◌+◌, ◌/◌, ◌==◌, Bool, true, false, ◌||◌, if◌then◌else◌, ◌⊎◌, List, [], ◌∷◌, ◌++◌, inl, inr, refl, ap, sym, ◌∙◌, subst}
use Rattle.std.proofs.{Common.{arith, append_assoc, append-nil, true≢false, Option, Some, None, Contains, eqb-true, eq-eqb}, lemmas.Bool.{cases_Bool, or_right}}
use Rattle.std.proofs.lemmas.{Bool.Decides.nat_tests, List.Elements.{Contains-append_right, Contains-push_cases, Contains-append_left, Contains-push}}
use Rattle.pas_profile.specs.{Profiles.IsValid, Blocks.address_of, declared.{directory.Directory.Directory, name.Block.Block, profile.Profile.Profile}}
use Rattle.pas_profile.specs.declared.guard.Guard.{Guard}
use Rattle.pas_scan.specs.Runs.{large_directory}
use Rattle.pas_steps.specs.{Agreement.Agreed, Past.{Once, Always}, Clear.IsClear, Kinds.{Kinds, Giving, Only, is_in, kind_of, Backing, returning}, Lists.Triple}
use Rattle.pas_steps.specs.{Lists.{Whole, part, Legal}, Views.{Stays, grain_move, KnowsDeed, View}, declared.step.{Made.Made, Step.{Step, TheVariants.Put}}}
use Rattle.pas_steps.{specs.declared.step.Step.TheVariants.Give, proofs.{Adding.{agreed_first, agreed_later}, Past.once_later}}
use Rattle.pas_core.proofs.Nexts.{agrees_next}
use Rattle.pas_large.{specs.Claims.{in_span, StaysPut}, proofs.Claims.span_in}
use Rattle.pas_guard.specs.{Books.{is_outer_of, is_outer, FitsBook}, Guarded.StandsGuard, Seeks.seeking, Keepers.{Call, MakesCall, MakesCalls, GivesBlockOf}}
use Rattle.pas_guard.specs.{Keepers.{PutsNoneOf, IsUpIn, IsUp, IsUpThrough, StandsBetween, StandsThrough, IsKeeper, IsBeside, GivesGuarded}, Raises.BacksNot}
use Rattle.pas_guard.specs.{Raises.{guard_of, IsRaised, RaiseSteps}, Sweeps.{is_over, SweptOne, Swept, sweeping, SweepSteps, life_look}}
use Rattle.pas_guard.proofs.{Guarded.{head_same, stands_on, own_keep, guard_begins, untouched_between}, Raises.{raised_backs, raised_pages, raised_leaves}}
use Rattle.pas_guard.proofs.Raises.{kept_steady, no_backs, after_steady, after_unbacked, fits_find}
use Rattle.pas_rights.{specs.{Gives.give_steps, Puts.PutsHere, PutsBack.BackSteps, Words.full}, proofs.Orders.{full_set, full_word}}
use Rattle.pas_records.specs.declared.record.Record.{Record}

-- ==== The list of all actors, and the steps of one.

-- An actor's part of two lists is that of the newer in front of that of the older.
pub part_both : (k : ℕ) (newer older : Whole) → part k (newer ++ older) ≡ part k newer ++ part k older
part_both k [] older = refl
part_both k (t ∷ newer) older = let rest = part_both k newer older in grind (arith, rest, cases_Bool)

-- its own newest step, or the step of another
own_first : (k : ℕ) (o : Bool) (m x : Made) (rest xs : List Made) → o ≡ true → (if o then m ∷ rest else rest) ≡ x ∷ xs → (m ≡ x) × (rest ≡ xs)
own_first k o m x rest xs own is = head_same m x rest xs (sym (ap (λ b. if b then m ∷ rest else rest) own) ∙ is)

others_first : (o : Bool) (m : Made) (rest xs : List Made) → o ≡ false → (if o then m ∷ rest else rest) ≡ xs → rest ≡ xs
others_first o m rest xs other is = sym (ap (λ b. if b then m ∷ rest else rest) other) ∙ is

-- where the actor's steps are first ys and then xs, the list can be cut between them
record Cut (l : Whole) (k : ℕ) (xs ys : List Made) : Type 0 where
  newer : Whole
  older : Whole
  whole : l ≡ newer ++ older
  newer_is : part k newer ≡ xs
  older_is : part k older ≡ ys

-- An actor's part that is cut comes from a list that is cut.
cut : (l : Whole) (k : ℕ) (xs ys : List Made) → part k l ≡ xs ++ ys → Cut l k xs ys
cut [] k [] ys is = record { newer = []; older = []; whole = refl; newer_is = refl; older_is = is }
cut [] k (x ∷ xs) ys is = absurd (let e : [] ≡ x ∷ (xs ++ ys) = is in cc)
cut (t ∷ l) k [] ys is = record { newer = []; older = t ∷ l; whole = refl; newer_is = refl; older_is = is }
cut (t ∷ l) k (x ∷ xs) ys is = elim (cases_Bool (t.actor == k)) [
  | inl own ↦ (let both = own_first k (t.actor == k) t.made x (part k l) (xs ++ ys) own is in let c = cut l k xs ys both.1 in record {
    newer = t ∷ c.newer;
    older = c.older;
    whole = ap (λ w. t ∷ w) c.whole;
    newer_is = ap (λ o. if o then t.made ∷ part k c.newer else part k c.newer) own ∙ ap (λ m. m ∷ part k c.newer) both.0 ∙ ap (λ w. x ∷ w) c.newer_is;
    older_is = c.older_is;
  })
  | inr other ↦ (let c = cut l k (x ∷ xs) ys (others_first (t.actor == k) t.made (part k l) (x ∷ (xs ++ ys)) other is) in record {
    newer = t ∷ c.newer;
    older = c.older;
    whole = ap (λ w. t ∷ w) c.whole;
    newer_is = ap (λ o. if o then t.made ∷ part k c.newer else part k c.newer) other ∙ c.newer_is;
    older_is = c.older_is;
  })
]

-- The older steps of a legal list are legal.
pub older_legal : (f : Profile) (newer older : Whole) → Legal f (newer ++ older) → Legal f older
older_legal f [] older legal = legal
older_legal f (t ∷ newer) older legal = older_legal f newer older legal.1

-- the answers of the actor's steps agree with what it had seen by then
agreed_of : (f : Profile) (l : Whole) (k : ℕ) (xs v : List Made) → IsValid f → Legal f l → part k l ≡ xs ++ v → Agreed f v xs
agreed_of f [] k [] v valid legal is = tt
agreed_of f [] k (x ∷ xs) v valid legal is = absurd (let e : [] ≡ x ∷ (xs ++ v) = is in cc)
agreed_of f (t ∷ l) k [] v valid legal is = tt
agreed_of f (t ∷ l) k (x ∷ xs) v valid legal is = elim (cases_Bool (t.actor == k)) [
  | inl own ↦ (let both = own_first k (t.actor == k) t.made x (part k l) (xs ++ v) own is in let next = legal.0 in
      search (arith, agrees_next, (agreed_of f l k xs v valid legal.1 both.1)))
  | inr other ↦ agreed_of f l k (x ∷ xs) v valid legal.1 (others_first (t.actor == k) t.made (part k l) (x ∷ (xs ++ v)) other is)
]

-- ==== Steps that leave a page alone.

-- What is so always in a list is so in its older steps.
older_always : (P : Made → List Made → Type 0) (ys xs : List Made) → Always P (ys ++ xs) → Always P xs
older_always P [] xs h = h
older_always P (y ∷ ys) xs h = older_always P ys xs h.1

-- they move no grain of the page, and don't back it
record LeavePage (page : ℕ) (steps : List Made) : Type 0 where
  stays : (g : ℕ) → g / 256 ≡ page → StaysPut g steps
  backs : BacksNot page steps

leave_older : (page : ℕ) (ys xs : List Made) → LeavePage page (ys ++ xs) → LeavePage page xs
leave_older page ys xs h = search (arith, older_always)

-- a guard stands on after such steps
page_on : (f : Profile) (l : Whole) (keeper page : ℕ) (d : Directory) (xs ys : List Made) → IsValid f → Legal f l → (c : Cut l keeper xs ys)
    → StandsGuard c.older keeper page d → LeavePage page xs → StandsGuard l keeper page d
page_on f l keeper page d xs ys valid legal c stands leaves =
    subst (λ w. StandsGuard w keeper page d) (sym c.whole) (stands_on f c.older c.newer keeper page d valid (subst (Legal f) c.whole legal) stands
    (own_keep keeper page c.newer (λ g at. subst (StaysPut g) (sym c.newer_is) (leaves.stays g at)) (subst (BacksNot page) (sym c.newer_is) leaves.backs)))

between_on : (f : Profile) (l : Whole) (keeper : ℕ) (guard : Guard) (xs ys : List Made) → IsValid f → Legal f l → (c : Cut l keeper xs ys)
    → StandsBetween c.older keeper guard → LeavePage guard.low xs → LeavePage guard.high xs → StandsBetween l keeper guard
between_on f l keeper guard xs ys valid legal c stands low high = let d = large_directory guard.block.heap in record {
  low = page_on f l keeper guard.low d xs ys valid legal c stands.low low;
  high = page_on f l keeper guard.high d xs ys valid legal c stands.high high;
  begins = stands.begins;
  ends = stands.ends;
}

-- ==== Guards of a book.

-- A guard that a list contains is its first or one of the others.
first_or_later : (g : Guard) (gs : List Guard) (x : Guard) → Contains (g ∷ gs) x → (g ≡ x) ⊎ Contains gs x
first_or_later g gs x has = search (arith, has.1, has.2)

-- An empty list contains no guard.
none_in : (x : Guard) → Contains [] x → ⊥
none_in x has = omega (arith, has.1)

-- The low page of a guard is an outer one of it.
low_outer : (g : Guard) → is_outer_of g g.low ≡ true
low_outer g = ap (λ t. t || (g.high == g.low)) (eq-eqb g.low g.low refl)

high_outer : (g : Guard) → is_outer_of g g.high ≡ true
high_outer g = or_right (g.low == g.high) (g.high == g.high) (eq-eqb g.high g.high refl)

-- an outer page of one of them is one of the book
outer_in : (gs : List Guard) (x : Guard) (p : ℕ) → Contains gs x → is_outer_of x p ≡ true → is_outer gs p ≡ true
outer_in [] x p has is = absurd (none_in x has)
outer_in (g ∷ gs) x p has is = elim (first_or_later g gs x has) [
  | inl same ↦ ap (λ y. is_outer_of y p || is_outer gs p) same ∙ ap (λ t. t || is_outer gs p) is
  | inr later ↦ or_right (is_outer_of g p) (is_outer gs p) (outer_in gs x p later is)
]

-- those that stay up in a sweep were up before
one_was_up : (t : Bool) (k : ℕ) (guard : Guard) (first : List Made) (kept after : List Guard) (said more : List Record) (x : Guard)
    → SweptOne t k guard first kept after said more → Contains kept x → (guard ≡ x) ⊎ Contains after x
one_was_up t k guard first kept after said more x h has = search (arith, first_or_later)

was_up : (all : Bool) (k : ℕ) (guards kept : List Guard) (said : List Record) (steps : List Made) (x : Guard) → Swept all k guards kept said steps
    → Contains kept x → Contains guards x
was_up all k [] kept said steps x h has = subst (λ xs. Contains xs x) h.0 has
was_up all k (guard ∷ guards) kept said steps x h has = elim (one_was_up (all || is_over guard h.0) k guard h.1 kept h.3 said h.4 x h.5 has) [
  | inl same ↦ (0, omega arith, same)
  | inr after ↦ Contains-append_right (guard ∷ []) guards x (was_up all k guards h.3 h.4 h.2 x h.6 after)
]

-- ==== One call.

-- after these steps the keeper fits the book, and each guard of it stands
record BookStands (f : Profile) (keeper : ℕ) (guards : List Guard) (l : Whole) : Type 0 where
  fits : FitsBook f guards (part keeper l)
  each : (guard : Guard) → Contains guards guard → StandsBetween l keeper guard

-- wherever the calls before it end
abbrev StoodBefore : Profile → ℕ → List Guard → List Made → Type 0
StoodBefore f keeper guards before = (older : Whole) → Legal f older → part keeper older ≡ before → BookStands f keeper guards older

-- a place in a call: `first` of its steps were made by then, after those of the calls before it
record Place (f : Profile) (keeper : ℕ) (guards : List Guard) (l : Whole) (before first rest : List Made) : Type 0 where
  valid : IsValid f
  legal : Legal f l
  is : part keeper l ≡ first ++ before
  agreed : Agreed f before (rest ++ first)
  stood : StoodBefore f keeper guards before

module _ {f : Profile} {keeper : ℕ} {guards : List Guard} {l : Whole} {before first rest : List Made} (at : Place f keeper guards l before first rest) where
  begin : Cut l keeper first before
  begin = cut l keeper first before at.is

  book_before : BookStands f keeper guards begin.older
  book_before = at.stood begin.older (older_legal f begin.newer begin.older (subst (Legal f) begin.whole at.legal)) begin.older_is

  fits_before : FitsBook f guards before
  fits_before = subst (FitsBook f guards) begin.older_is book_before.fits

  old_stands : (guard : Guard) → Contains guards guard → LeavePage guard.low first → LeavePage guard.high first → StandsBetween l keeper guard
  old_stands guard has = between_on f l keeper guard first before at.valid at.legal begin (book_before.each guard has)

-- ---- the place between two parts of the steps
split_at : (rest first after searched : List Made) → rest ++ first ≡ after ++ searched
    → ((x : List Made) × (first ≡ x ++ searched) × (after ≡ rest ++ x)) ⊎ ((y : List Made) × (searched ≡ y ++ first) × (rest ≡ after ++ y))
split_at [] first after searched e = inl (after, e, refl)
split_at (r ∷ rest) first [] searched e = inr (r ∷ rest, sym e, refl)
split_at (r ∷ rest) first (a ∷ after) searched e = let both = head_same r a (rest ++ first) _ e in elim (split_at rest first after searched both.1) [
  | inl h ↦ inl (h.0, h.1, ap (λ m. m ∷ after) (sym both.0) ∙ ap (λ xs. r ∷ xs) h.2)
  | inr h ↦ inr (h.0, h.1, ap (λ m. m ∷ rest) both.0 ∙ ap (λ xs. a ∷ xs) h.2)
]

-- steps of kinds among which a give isn't, as those of a search
none_gives : (ks : Kinds) (guard : Guard) (xs : List Made) → is_in ks Giving ≡ false → Only ks xs → Once (GivesBlockOf guard) xs → ⊥
none_gives ks guard [] other only h = h
none_gives ks guard (m ∷ xs) other only (inl h) = true≢false (sym only.0 ∙ ap (λ s. is_in ks (kind_of s)) h ∙ other)
none_gives ks guard (m ∷ xs) other only (inr h) = none_gives ks guard xs other only.1 h

low_out : (first k : ℕ) → in_span (first + 1) (first + 1 + k) first ≡ false
low_out first k = grind (arith, nat_tests)

high_out : (first k : ℕ) → in_span (first + 1) (first + 1 + k) (first + k + 1) ≡ false
high_out first k = grind (arith, nat_tests)

-- ---- a raise, of which these were the first steps by then
module _ {f : Profile} {keeper heap k : ℕ} {guards guards' : List Guard} {answer : Option Block} {l : Whole} {before first rest : List Made}
    (at : Place f keeper guards l before first rest) (raise : RaiseSteps f heap k guards guards' answer (rest ++ first)) where
  -- a raise moves no grain of an outer page that was one before, nor does it back that page
  raise_leaves : (p : ℕ) → is_outer guards p ≡ true → LeavePage p first
  raise_leaves p outer = let fits = fits_before at in
      leave_older p rest first (record { stays = search arith; backs = raise.unbacked before fits at.agreed p outer })

  raise_old : (guard : Guard) → Contains guards guard → StandsBetween l keeper guard
  raise_old guard has = old_stands at guard has (raise_leaves guard.low (outer_in guards guard guard.low has (low_outer guard))) (raise_leaves guard.high (outer_in guards guard guard.high has (high_outer guard)))

  -- its own guard, from the end of the search on
  module _ (block : Block) (r : IsRaised f (large_directory heap) k guards guards' raise.searched raise.after block) (x : List Made)
      (first_is : first ≡ x ++ raise.searched) (after_is : raise.after ≡ rest ++ x) where
    abbrev d : Directory
    d = large_directory heap

    search_cut : Cut l keeper x (raise.searched ++ before)
    search_cut = cut l keeper x (raise.searched ++ before) (at.is ∙ ap (λ xs. xs ++ before) first_is ∙ append_assoc x raise.searched before)

    search_legal : Legal f search_cut.older
    search_legal = older_legal f search_cut.newer search_cut.older (subst (Legal f) search_cut.whole at.legal)

    search_agreed : Agreed f before raise.searched
    search_agreed = agreed_of f search_cut.older keeper raise.searched before at.valid search_legal search_cut.older_is

    own_leaves : (p : ℕ) → in_span (r.first + 1) (r.first + 1 + k) p ≡ false → LeavePage p x
    own_leaves p out = leave_older p rest x (record {
      stays = λ g on. subst (StaysPut g) (sym r.after_is ∙ after_is) (after_steady d r.first k r.word r.answer block r.block_is r.left r.backs (raised_leaves r)
          (raised_backs r) g (ap (in_span (r.first + 1) _) on ∙ out));
      backs = subst (BacksNot p) (sym r.after_is ∙ after_is) (after_unbacked d r.first k r.word r.answer block r.block_is r.left r.backs (raised_leaves r) (raised_pages r) p out);
    })

    own_heap : d ≡ large_directory block.heap
    own_heap = ap (λ (b : Block). large_directory b.heap) (sym r.block_is)

    raise_own : StandsBetween l keeper (guard_of r.first k block)
    raise_own =
        let may = fits_find f d guards before (fits_before at) in
        let bare = r.found.bare before may search_agreed in let span = r.found.got.from before may search_agreed in
        let known : (p : ℕ) → in_span _ _ p ≡ true → KnowsDeed p d (part keeper _) = λ p here. subst (KnowsDeed p d) (sym search_cut.older_is) (span.got.deeds p here) in
        let low = guard_begins f _ keeper r.first d before _ at.valid search_legal search_cut.older_is bare.0 (known r.first (span_in r.first _ r.first (omega arith) (omega arith))) in
        let high = guard_begins f _ keeper _ d before _ at.valid search_legal search_cut.older_is bare.1 (known _ (span_in r.first _ _ (omega arith) (omega arith))) in
        record {
          low = subst (StandsGuard l keeper r.first) own_heap (page_on f l keeper r.first d x (raise.searched ++ before) at.valid at.legal search_cut low (own_leaves r.first (low_out r.first k)));
          high = subst (StandsGuard l keeper _) own_heap (page_on f l keeper (r.first + k + 1) d x _ at.valid at.legal search_cut high (own_leaves (r.first + k + 1) (high_out r.first k)));
          begins = (let name = ap (λ (b : Block). address_of b.name) r.block_is in omega (arith, name));
          ends = (let name = ap (λ (b : Block). address_of b.name) r.block_is in let room = ap (λ (b : Block). b.room) r.block_is in omega (arith, name, room));
        }

-- a guard of the book after the raise: from the give on, or when the raise is over
raise_up : {f : Profile} {keeper heap k : ℕ} {guards guards' : List Guard} (answer : Option Block) {l : Whole} {before first rest : List Made}
    → Place f keeper guards l before first rest → (raise : RaiseSteps f heap k guards guards' answer (rest ++ first)) → (guard : Guard) → Contains guards' guard
    → ((x : List Made) × (first ≡ x ++ raise.searched) × (raise.after ≡ rest ++ x)) → StandsBetween l keeper guard
raise_up None at raise guard has split = raise_old at raise guard (subst (λ xs. Contains xs guard) raise.outcome.same has)
raise_up {k = k} {guards = guards} (Some block) {l} at raise guard has split =
    let r = raise.outcome in elim (Contains-push_cases guards (guard_of r.first k block) guard (subst (λ xs. Contains xs guard) r.raised has)) [
      | inl old ↦ raise_old at raise guard old
      | inr own ↦ subst (StandsBetween l _) own (raise_own at raise block r split.0 split.1 split.2)
    ]

-- ---- a sweep, of which these were the first steps by then
sweep_step : (s : Step) (answer g : ℕ) → is_in sweeping (kind_of s) ≡ true → ((page word mask : ℕ) → s ≡ Put page word mask → (page == g / 256) ≡ false)
    → grain_move s answer g ≡ Stays
sweep_step s answer g kind puts = search (arith, true≢false)

puts_leave : (guard : Guard) (p : ℕ) (xs : List Made) → is_outer_of guard p ≡ true → Only sweeping xs → Always (PutsNoneOf guard) xs → (g : ℕ) → g / 256 ≡ p
    → StaysPut g xs
puts_leave guard p [] outer only puts g at = tt
puts_leave guard p (m ∷ xs) outer only puts g at = (
  sweep_step m.step m.answer g only.0 (λ page word mask e. elim (cases_Bool (page == g / 256)) [
    | inl same ↦ absurd (true≢false (sym outer ∙ ap (is_outer_of guard) (sym (eqb-true page (g / 256) same ∙ at)) ∙ puts.0 page word mask e))
    | inr other ↦ other
  ]),
  puts_leave guard p xs outer only.1 puts.1 g at,
)

module _ {f : Profile} {keeper : ℕ} {all : Bool} {guards guards' : List Guard} {said : List Record} {l : Whole} {before first rest : List Made}
    (at : Place f keeper guards l before first rest) (sweep : SweepSteps f keeper all guards guards' said (rest ++ first)) where
  first_kinds : Only sweeping first
  first_kinds = older_always (λ m before. is_in sweeping (kind_of m.step) ≡ true) rest first sweep.kinds

  sweep_leaves : (guard : Guard) → Contains guards' guard ⊎ Always (PutsNoneOf guard) first → (p : ℕ) → is_outer_of guard p ≡ true → LeavePage p first
  sweep_leaves guard up p outer = record {
    stays = λ g on. elim up [
      | inl kept ↦ older_always _ rest first (kept_steady all keeper guards _ said _ (book_before at).fits.apart sweep.swept g (ap (is_outer _) on ∙ outer_in guards' guard p kept outer))
      | inr puts ↦ puts_leave guard p first outer first_kinds puts g on
    ];
    backs = no_backs sweeping p first refl first_kinds;
  }

  sweep_up : (guard : Guard) → Contains guards guard → Contains guards' guard ⊎ Always (PutsNoneOf guard) first → StandsBetween l keeper guard
  sweep_up guard has up = old_stands at guard has (sweep_leaves guard up guard.low (low_outer guard)) (sweep_leaves guard up guard.high (high_outer guard))

-- ==== Whole calls, and a place in one call.

-- where the calls before it left the book standing, so does this one
call_stands : {f : Profile} {keeper : ℕ} (call : Call) {guards guards' : List Guard} {l : Whole} {before last : List Made}
    → Place f keeper guards l before last []
    → MakesCall f keeper call guards guards' last → BookStands f keeper guards' l
call_stands {f} {keeper} (Call.Raise heap k answer) {guards} {guards'} {l} {before} at raise = record {
  fits = subst (FitsBook f guards') (sym at.is) (raise.fits.from before (fits_before at) at.agreed);
  each = λ guard has. raise_up answer at raise guard has (raise.after, raise.steps_are, refl);
}
call_stands {f} {keeper} (Call.Sweep all said) {guards} {guards'} {l} {before} {last} at sweep = record {
  fits = subst (FitsBook f guards') (sym at.is) (sweep.fits.from before (fits_before at) at.agreed);
  each = λ guard has. sweep_up at sweep guard (was_up all keeper guards guards' said last guard sweep.swept has) (inl has);
}

-- before any step, and a book without guards
clear_at_first : IsClear []
clear_at_first = record { on = λ page. record { stamped = refl; owes = record { checks = λ word lt. refl; hint = refl }; examined = refl } }

calls_stand : (f : Profile) (keeper : ℕ) → IsValid f → (calls : List Call) (guards : List Guard) (steps : List Made) → MakesCalls f keeper calls guards steps
    → (l : Whole) → Legal f l → part keeper l ≡ steps → BookStands f keeper guards l
calls_stand f keeper valid [] guards steps made l legal is = search (arith, clear_at_first, none_in, made.0, (is ∙ made.1))
calls_stand f keeper valid (call ∷ calls) guards steps made l legal is =
    let at = is ∙ made.5 in call_stands call (record { valid = valid; legal = legal; is = at; agreed = agreed_of f l _ _ _ valid legal at; stood = calls_stand f _ valid calls _ _ made.3 }) made.4

-- a place in a call
place_stands : {f : Profile} {keeper : ℕ} (call : Call) {guards : List Guard} (guards' : List Guard) (guard : Guard) {l : Whole} {before : List Made}
    (first rest : List Made)
    → Place f keeper guards l before first rest → MakesCall f keeper call guards guards' (rest ++ first) → IsUpIn call guards guards' guard first
    → StandsBetween l keeper guard
place_stands (Call.Raise heap k answer) guards' guard first rest at raise up = elim up [
  | inl old ↦ raise_old at raise guard old
  | inr own ↦ elim (split_at rest first raise.after raise.searched raise.steps_are) [
    | inl split ↦ raise_up answer at raise guard own.0 split
    | inr early ↦ absurd (none_gives seeking guard raise.searched refl raise.kinds (subst (Once (GivesBlockOf guard)) (sym early.1) (once_later (GivesBlockOf guard) early.0 first own.1)))
  ]
]
place_stands (Call.Sweep all said) guards' guard first rest at sweep up = sweep_up at sweep guard up.0 up.1

-- the answers of all its steps agree with what the actor had seen by then
agreed_all : (f : Profile) (l : Whole) (k : ℕ) → IsValid f → Legal f l → Agreed f [] (part k l)
agreed_all f l k valid legal = agreed_of f l k (part k l) [] valid legal (sym (append-nil (part k l)))

-- the keeper goes on by the steps `later`
up_stands : (f : Profile) (keeper : ℕ) (guard : Guard) (later : List Made) (l : Whole) → IsValid f → Legal f l → Agreed f [] (later ++ part keeper l)
    → IsUp f keeper guard later (part keeper l) → StandsBetween l keeper guard
up_stands f keeper guard later l valid legal agreed up =
    let steps = up.rest ++ up.first in
    let whole : later ++ part keeper l ≡ up.more ++ (steps ++ up.before) = search (arith, append_assoc) in
    place_stands up.call up.guards_after guard up.first up.rest (record {
      valid = valid;
      legal = legal;
      is = up.made_is;
      agreed = search (arith, append-nil, agreed_first, agreed_later);
      stood = calls_stand f keeper valid up.calls up.guards up.before up.called;
    }) up.calls_now up.up

-- ---- all places
at_the_end : (keeper : ℕ) (guard : Guard) (newer older : Whole) → StandsThrough keeper guard newer older → StandsBetween (newer ++ older) keeper guard
at_the_end keeper guard [] older stands = stands
at_the_end keeper guard (t ∷ newer) older stands = stands.0

-- it stands on at one place more
one_more : (f : Profile) (keeper : ℕ) (guard : Guard) (t : Triple) (newer older : Whole) → IsValid f → Legal f (t ∷ (newer ++ older))
    → StandsBetween (t ∷ (newer ++ older)) keeper guard → StandsThrough keeper guard newer older
    → StandsThrough keeper guard (t ∷ newer) older
one_more f keeper guard t newer older valid legal after so_far =
    let d = large_directory guard.block.heap in let l = newer ++ older in let before = at_the_end keeper guard newer older so_far in
    (after, search (arith, untouched_between), search (arith, untouched_between), so_far)

up_here : (f : Profile) (keeper : ℕ) (guard : Guard) (later l : Whole) → IsValid f → Legal f (later ++ l)
    → IsUp f keeper guard (part keeper later) (part keeper l) → StandsBetween l keeper guard
up_here f keeper guard later l valid legal up = up_stands f keeper guard (part keeper later) l valid (older_legal f later l legal)
    (subst (Agreed f []) (part_both keeper later l) (agreed_all f (later ++ l) keeper valid legal)) up

-- While a keeper's guard is up, its outer pages stand whole and bare beside its block.
pub stands_through : (f : Profile) (keeper : ℕ) (guard : Guard) (later newer older : Whole) → IsValid f → Legal f (later ++ (newer ++ older))
    → IsUpThrough f keeper guard later newer older → StandsThrough keeper guard newer older
stands_through f keeper guard later [] older valid legal up = up_here f keeper guard later older valid legal up
stands_through f keeper guard later (t ∷ newer) older valid legal up =
    let l = newer ++ older in one_more f keeper guard t newer older valid (older_legal f later _ legal) (up_here f keeper guard later (t ∷ l) valid legal up.0)
    (stands_through f keeper guard (later ++ (t ∷ [])) newer older valid (subst (Legal f) (sym (append_assoc later (t ∷ []) l)) legal) up.1)

-- How long a guard is up, by the calls of its keeper: until a grain of an outer page is put.
-- ---- a lowering puts grains of the low page
full_put : (page : ℕ) (d : Directory) (steps : List Made) → BackSteps page d full steps → Once (PutsHere page) steps
full_put page d steps a = search (arith, true≢false, full_set, full_word, once_later)

not_put : (guard : Guard) (xs : List Made) → Once (PutsHere guard.low) xs → Always (PutsNoneOf guard) xs → ⊥
not_put guard [] h none = h
not_put guard (m ∷ xs) (inl h) none = true≢false (sym (low_outer guard) ∙ none.0 guard.low h.0 h.1 h.2)
not_put guard (m ∷ xs) (inr h) none = not_put guard xs h none.1

newer_none : (guard : Guard) (ys xs : List Made) → Always (PutsNoneOf guard) (ys ++ xs) → Always (PutsNoneOf guard) ys
newer_none guard [] xs h = tt
newer_none guard (y ∷ ys) xs h = (h.0, newer_none guard ys xs h.1)

-- ---- so a sweep that puts none of them keeps the guard
one_kept : (t : Bool) (k : ℕ) (guard : Guard) (first : List Made) (kept after : List Guard) (said more : List Record) (x : Guard)
    → SweptOne t k guard first kept after said more → guard ≡ x → Always (PutsNoneOf x) first → Contains kept x
one_kept true k guard first kept after said more x h same none = let low = h.0 in
    absurd (not_put guard first (subst (Once (PutsHere guard.low)) (sym low.steps_are) (once_later (PutsHere guard.low) low.high low.low (full_put guard.low _ low.low low.low_order))) (subst (λ y. Always (PutsNoneOf y) first) (sym same) none))
one_kept false k guard first kept after said more x h same none = subst (λ xs. Contains xs x) (sym h.1) (0, omega arith, same)

others_kept : (t : Bool) (k : ℕ) (guard : Guard) (first : List Made) (kept after : List Guard) (said more : List Record) (x : Guard)
    → SweptOne t k guard first kept after said more → Contains after x → Contains kept x
others_kept true k guard first kept after said more x h has = subst (λ xs. Contains xs x) (sym h.1) has
others_kept false k guard first kept after said more x h has = subst (λ xs. Contains xs x) (sym h.1) (Contains-append_right (guard ∷ []) after x has)

kept_without_puts : (all : Bool) (k : ℕ) (guards kept : List Guard) (said : List Record) (steps : List Made) (x : Guard) → Swept all k guards kept said steps
    → Contains guards x → Always (PutsNoneOf x) steps → Contains kept x
kept_without_puts all k [] kept said steps x h has none = absurd (none_in x has)
kept_without_puts all k (guard ∷ guards) kept said steps x h has none =
    let look = life_look guard h.0 in let parts = subst (Always (PutsNoneOf x)) h.7 none in elim (first_or_later guard guards x has) [
      | inl same ↦ one_kept _ k guard h.1 kept h.3 said h.4 x h.5 same (newer_none x h.1 look (older_always (PutsNoneOf x) h.2 (h.1 ++ look) parts))
      | inr later ↦ others_kept _ k guard h.1 kept h.3 said h.4 x h.5 (kept_without_puts all k guards h.3 h.4 h.2 x h.6 later (newer_none x h.2 (h.1 ++ look) parts))
    ]

-- ---- from one step to the next, and from one call to the next
pub begins_up : (heap pages : ℕ) (answer : Option Block) (guards guards' : List Guard) (guard : Guard) (m : Made) (first : List Made) → Contains guards' guard
    → GivesBlockOf guard m first → IsUpIn (Call.Raise heap pages answer) guards guards' guard (m ∷ first)
begins_up heap pages answer guards guards' guard m first has gives = inr (has, inl gives)

-- A guard that is up in a call stays up by one step more that puts none of its grains.
pub stays_up : (call : Call) (guards guards' : List Guard) (guard : Guard) (m : Made) (first : List Made) → IsUpIn call guards guards' guard first
    → PutsNoneOf guard m first → IsUpIn call guards guards' guard (m ∷ first)
stays_up call guards guards' guard m first up none = search arith

in_book : (f : Profile) (keeper : ℕ) (call : Call) (guards guards' : List Guard) (guard : Guard) (steps : List Made)
    → MakesCall f keeper call guards guards' steps → IsUpIn call guards guards' guard steps → Contains guards' guard
in_book f keeper (Call.Raise heap pages None) guards guards' guard steps raise (inl old) = subst (λ xs. Contains xs guard) (sym raise.outcome.same) old
in_book f keeper (Call.Raise heap pages (Some block)) guards guards' guard steps raise (inl old) = let r = raise.outcome in subst (λ xs. Contains xs guard) (sym r.raised) (Contains-append_left _ _ guard old)
in_book f keeper (Call.Raise heap pages answer) guards guards' guard steps raise (inr own) = own.0
in_book f keeper (Call.Sweep all said) guards guards' guard steps sweep up = elim up.1 [ inl kept ↦ kept | inr none ↦ kept_without_puts all _ _ _ _ _ _ sweep.swept up.0 none ]

-- a guard that was up before the call, as long as no grain of its outer pages is put
up_before : (call : Call) (guards guards' : List Guard) (guard : Guard) (first : List Made) → Contains guards guard → Always (PutsNoneOf guard) first
    → IsUpIn call guards guards' guard first
up_before call guards guards' guard first has h = grind arith

-- A guard that is up after a call is up at the start of the keeper's next.
pub up_in_next : (f : Profile) (keeper : ℕ) (call next : Call) (guards guards' later : List Guard) (guard : Guard) (steps : List Made)
    → MakesCall f keeper call guards guards' steps → IsUpIn call guards guards' guard steps → IsUpIn next guards' later guard []
up_in_next f keeper call next guards guards' later guard steps made up = up_before next _ later guard [] (in_book f keeper call guards _ guard steps made up) tt

-- a call that leaves the guard in its book leaves its outer pages alone
pub left_alone : (f : Profile) (keeper : ℕ) (call : Call) (guards guards' : List Guard) (guard : Guard) (v : View) (steps : List Made) → FitsBook f guards v
    → Agreed f v steps → MakesCall f keeper call guards guards' steps → Contains guards guard → Contains guards' guard
    → (g : ℕ) → is_outer_of guard (g / 256) ≡ true → StaysPut g steps
left_alone f keeper a guards guards' guard v steps met agreed raise has left g outer = search (arith, outer_in, kept_steady)

-- ==== From the give on, by the calls alone.

-- ---- the raise that gives a block puts the block and the pages beside it into its book
give_in_parts : (guard : Guard) (ys xs : List Made) → Once (GivesBlockOf guard) (ys ++ xs) → Once (GivesBlockOf guard) ys ⊎ Once (GivesBlockOf guard) xs
give_in_parts guard [] xs h = inr h
give_in_parts guard (y ∷ ys) xs (inl h) = inl (inl h)
give_in_parts guard (y ∷ ys) xs (inr h) = elim (give_in_parts guard ys xs h) [ inl newer ↦ inl (inr newer) | inr older ↦ inr older ]

same_block : (b c : Block) → Give b ≡ Give c → b ≡ c
same_block b c e = cc

raised_in_book : (f : Profile) (d : Directory) (k : ℕ) (guards guards' : List Guard) (searched after : List Made) (block : Block) (guard : Guard)
    → IsRaised f d k guards guards' searched after block → IsBeside guard → Once (GivesBlockOf guard) after → Contains guards' guard
raised_in_book f d k guards guards' searched after block guard r beside gives =
    let given = give_steps (r.first + 1) 0 block r.word r.answer in
    let same : block ≡ guard.block = elim (give_in_parts guard r.left (given ++ r.backs) (subst (Once (GivesBlockOf guard)) r.after_is gives)) [
      | inl left ↦ absurd (none_gives returning guard r.left refl (raised_leaves r) left)
      | inr before ↦ elim (give_in_parts guard given r.backs before) [
        | inl now ↦ search (arith, same_block)
        | inr backs ↦ absurd (none_gives (Backing ∷ []) guard r.backs refl (raised_backs r) backs)
      ]
    ] in
    subst (λ xs. Contains xs guard) (sym r.raised) (subst (Contains (guards ++ guard_of r.first k block ∷ []))
    (search (arith, beside.begins, beside.ends, r.block_is)) (Contains-push guards (guard_of r.first k block)))

-- so it is up from the give on, and no call gives it but such a raise
up_when_given : (f : Profile) (keeper : ℕ) (call : Call) (guards guards' : List Guard) (guard : Guard) (first rest : List Made)
    → MakesCall f keeper call guards guards' (rest ++ first) → IsBeside guard → Once (GivesBlockOf guard) first → IsUpIn call guards guards' guard first
up_when_given f keeper (Call.Raise heap pages None) guards guards' guard first rest raise beside gives =
    let none = raise.outcome in absurd (none_gives seeking guard _ refl raise.kinds (subst (Once _) (raise.steps_are ∙ ap (λ xs. xs ++ raise.searched) none.nothing) (once_later _ rest first gives)))
up_when_given f keeper (Call.Raise heap pages (Some block)) guards guards' guard first rest raise beside gives =
    let book : Contains guards' guard = elim (give_in_parts guard raise.after raise.searched (subst (Once (GivesBlockOf guard)) raise.steps_are (once_later (GivesBlockOf guard) rest first gives))) [
      | inl after ↦ raised_in_book f (large_directory heap) pages guards guards' raise.searched raise.after block guard raise.outcome beside after
      | inr early ↦ absurd (none_gives seeking guard raise.searched refl raise.kinds early)
    ] in inr (book, gives)
up_when_given f keeper (Call.Sweep all said) guards guards' guard first rest sweep beside gives = absurd (none_gives sweeping guard _ refl sweep.kinds (once_later _ rest _ gives))

-- ---- until a grain of an outer page is put
-- the give is one of the last steps, or one of those before them
given_by_then : (guard : Guard) (m : Made) (newer older last before : List Made) → newer ++ (m ∷ older) ≡ last ++ before → m.step ≡ Give guard.block
    → Always (PutsNoneOf guard) newer
    → Once (GivesBlockOf guard) last ⊎ ((y : List Made) × (before ≡ y ++ (m ∷ older)) × Always (PutsNoneOf guard) y × Always (PutsNoneOf guard) last)
given_by_then guard m newer older [] before e gives none = inr (newer, sym e, none, tt)
given_by_then guard m [] older (x ∷ last) before e gives none = inl (inl (ap (λ (n : Made). n.step) (sym (head_same m x older (last ++ before) e).0) ∙ gives))
given_by_then guard m (n ∷ newer) older (x ∷ last) before e gives none =
    let both = head_same n x (newer ++ (m ∷ older)) (last ++ before) e in elim (given_by_then guard m newer older last before both.1 gives none.1) [
      | inl now ↦ inl (inr now)
      | inr h ↦ inr (h.0, h.1, h.2, (λ page word mask is. none.0 page word mask (ap (λ (y : Made). y.step) both.0 ∙ is), h.3))
    ]

no_steps : (m : Made) (ys xs zs : List Made) → [] ≡ zs ++ (ys ++ (m ∷ xs)) → ⊥
no_steps m [] xs [] e = cc
no_steps m (y ∷ ys) xs [] e = cc
no_steps m ys xs (z ∷ zs) e = cc

still_in_book : (f : Profile) (keeper : ℕ) (calls : List Call) (guards : List Guard) (guard : Guard) (m : Made) (steps newer older : List Made)
    → MakesCalls f keeper calls guards steps → steps ≡ newer ++ (m ∷ older)
    → m.step ≡ Give guard.block → IsBeside guard → Always (PutsNoneOf guard) newer → Contains guards guard
still_in_book f keeper [] guards guard m steps newer older made is gives beside none = absurd (no_steps m newer older [] (sym made.1 ∙ is))
still_in_book f keeper (call ∷ calls) guards guard m steps newer older made is gives beside none = in_book f _ call _ _ _ _ made.4 (elim (given_by_then guard m newer older _ _ (sym is ∙ made.5) gives none) [
  | inl now ↦ up_when_given f keeper call made.0 guards guard made.2 [] made.4 beside now
  | inr h ↦ up_before call made.0 guards guard made.2 (still_in_book f keeper calls made.0 guard m made.1 h.0 older made.3 h.1 gives beside h.2) h.3
])

-- A guard whose block a raise gave, and none of whose grains was put since, is in the keeper's book after its calls.
pub booked : (f : Profile) (keeper : ℕ) (calls : List Call) (guards : List Guard) (guard : Guard) (m : Made) (newer older : List Made)
    → MakesCalls f keeper calls guards (newer ++ (m ∷ older)) → GivesBlockOf guard m older → IsBeside guard → Always (PutsNoneOf guard) newer
    → Contains guards guard
booked f keeper calls guards guard m newer older made gives beside none = still_in_book f keeper calls guards guard m _ newer older made refl gives beside none

-- at each place in whole calls
still_up : (f : Profile) (keeper : ℕ) (calls : List Call) (guards : List Guard) (guard : Guard) (m : Made) (steps later newer older : List Made)
    → MakesCalls f keeper calls guards steps → steps ≡ later ++ (newer ++ (m ∷ older))
    → m.step ≡ Give guard.block → IsBeside guard → Always (PutsNoneOf guard) newer → IsUp f keeper guard later (newer ++ (m ∷ older))
still_up f keeper [] guards guard m steps later newer older made is gives beside none = absurd (no_steps m newer older later (sym made.1 ∙ is))
still_up f keeper (call ∷ calls) guards guard m steps later newer older made is gives beside none = elim (split_at later _ made.2 made.1 (sym is ∙ made.5)) [
  | inl h ↦ record {
    calls = calls;
    guards = made.0;
    before = made.1;
    called = made.3;
    call = call;
    guards_after = guards;
    first = h.0;
    rest = later;
    more = [];
    calls_now = subst (MakesCall f keeper call made.0 guards) h.2 made.4;
    made_is = h.1;
    later_is = refl;
    up = elim (given_by_then guard m newer older h.0 made.1 h.1 gives none) [
      | inl now ↦ up_when_given f keeper call made.0 guards guard h.0 later (subst (MakesCall f keeper call made.0 guards) h.2 made.4) beside now
      | inr early ↦ up_before call made.0 guards guard h.0 (still_in_book f keeper calls made.0 guard m made.1 _ older made.3 early.1 gives beside early.2) early.3
    ];
  }
  | inr h ↦ (let up = still_up f keeper calls made.0 guard m made.1 h.0 newer older made.3 h.1 gives beside none in record {
    calls = up.calls;
    guards = up.guards;
    before = up.before;
    called = up.called;
    call = up.call;
    guards_after = up.guards_after;
    first = up.first;
    rest = up.rest;
    more = made.2 ++ up.more;
    calls_now = up.calls_now;
    made_is = up.made_is;
    later_is = h.2 ∙ ap (λ xs. made.2 ++ xs) up.later_is ∙ sym (append_assoc made.2 up.more up.rest);
    up = up.up;
  })
]

-- ---- in a list of all actors' steps, after which the keeper goes on by the rest
record KeepsOn (f : Profile) (keeper : ℕ) (calls : List Call) (guards : List Guard) (rest : List Made) (l : Whole) : Type 0 where
  legal : Legal f l
  called : MakesCalls f keeper calls guards (rest ++ part keeper l)
  agreed : Agreed f [] (rest ++ part keeper l)

module _ (f : Profile) (keeper : ℕ) (guard : Guard) (calls : List Call) (guards : List Guard) (rest : List Made) (give : Triple) (older : Whole)
    (valid : IsValid f) (given : GivesGuarded keeper guard give) where
  stands_here : (later newer : Whole) → KeepsOn f keeper calls guards rest (later ++ (newer ++ (give ∷ older))) → Always (PutsNoneOf guard) (part keeper newer)
      → StandsBetween (newer ++ (give ∷ older)) keeper guard
  stands_here later newer keeps none =
      let l = newer ++ (give ∷ older) in let goes_on = rest ++ part keeper later in
      let whole = ap (λ xs. rest ++ xs) (part_both keeper later l) ∙ sym (append_assoc rest (part keeper later) (part keeper l)) in
      let own : part keeper l ≡ part keeper newer ++ (give.made ∷ part keeper older) = search (arith, part_both, eq-eqb) in
      let up = still_up f keeper calls guards guard give.made _ goes_on _ _ keeps.called (whole ∙ ap (λ xs. goes_on ++ xs) own) given.gives given.beside none in
      up_stands f keeper guard goes_on l valid (older_legal f later l keeps.legal) (subst (Agreed f []) whole keeps.agreed) (subst (IsUp f keeper guard goes_on) (sym own) up)

  stands_since : (later newer : Whole) → KeepsOn f keeper calls guards rest (later ++ (newer ++ (give ∷ older))) → Always (PutsNoneOf guard) (part keeper newer)
      → StandsThrough keeper guard newer (give ∷ older)
  stands_since later [] keeps none = stands_here later [] keeps none
  stands_since later (t ∷ newer) keeps none =
      let l = newer ++ (give ∷ older) in one_more f keeper guard t newer _ valid (older_legal f later (t ∷ l) keeps.legal) (stands_here later (t ∷ newer) keeps none)
      (stands_since (later ++ (t ∷ [])) newer (subst (KeepsOn f keeper calls guards rest) (sym (append_assoc later (t ∷ []) l)) keeps) (search arith))

-- A guard stands from the give of its block on, until its keeper puts a grain of it.
pub stands_from_give : (f : Profile) (keeper : ℕ) (guard : Guard) (later newer older : Whole) (give : Triple) → IsValid f
    → Legal f (later ++ (newer ++ (give ∷ older))) → IsKeeper f keeper (part keeper (later ++ (newer ++ (give ∷ older))))
    → GivesGuarded keeper guard give → Always (PutsNoneOf guard) (part keeper newer) → StandsThrough keeper guard newer (give ∷ older)
stands_from_give f keeper guard later newer older give valid legal keeps given none =
    stands_since f keeper guard (keeps.call ∷ keeps.calls) keeps.guards_after keeps.rest give older valid given later newer (search (arith, append_assoc)) none
