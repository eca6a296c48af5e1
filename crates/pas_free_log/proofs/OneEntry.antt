-- What a flush does for one entry of a log.
use Rattle.std.proofs.Common.{◌≡◌, ℕ, [], true, false, List, ◌∷◌, ◌++◌, refl, ap, sym, ◌∙◌, append_assoc, true≢false, ◌+◌, ◌-◌, ◌/◌, ◌%◌, ◌≤◌, ◌==◌}
use Rattle.std.proofs.Common.{if◌then◌else◌, Option, Some, arith, ◌&&◌, suc, ◌*◌, ◌<◌, ◌||◌, min, inl, inr, subst, ◌≢◌, ◌^◌, None, Bool, append-nil, ne_eqb}
use Rattle.std.proofs.{Common.{eqb-true, eq-eqb, IfSome, option_to_list, length}, lemmas.{List.{map-append, Elements.All-nil}, Bool.Decides.nat_tests}}
use Rattle.std.proofs.lemmas.Bool.{cases_eq, cases_Bool, eqb-false, not-true, and_parts, and_from, false≢true}
use Rattle.pas_steps.specs.{declared.step.{Made.Made, Step.{Step, TheVariants.{Stamp, Look, End, EndSized}}}, Kinds.{Kinds, Stamping, kind_of, is_in, apart}}
use Rattle.pas_steps.specs.{Kinds.{Only, LookDeed, Putting, returning, Ending}, Views.{View, epoch_of, known_deed, known_epoch, is_unstamped, examines}}
use Rattle.pas_steps.specs.{Views.{or_zero, ends_on, Stays, Ends, grain_move, held_after}, Allowed.{HoldsOn, IsEpochKnown, IsStepOf}, Frames.OnlyReturns}
use Rattle.pas_steps.specs.{Effects.succeeds, Agreement.{AgreesDeed, AgreesLife, AgreesEnd, Agrees}, Calls.{nothing, put, Does, Calls, Kept, now, Leads}}
use Rattle.pas_steps.specs.{Desks.{Standing, made, Makes, CanCall, Adds, AnyView}, Events.{events_by, with_event, end_event, reason_of, event_of, sized_reason}}
use Rattle.pas_steps.proofs.{Apart.{in_apart, only_within, only_both, deeds_same, unstamped_same, examines_same, epoch_same, events_same}, Adding.adds_none}
use Rattle.pas_steps.proofs.{Adding.{adds_step, adds_under}, Called.call_then, ReadDeeds.directory_told, Past.once_later, Calls.{does_after_nothing, does_idly}}
use Rattle.pas_steps.proofs.Calls.{returns_are, does_none, unexamined_over, leads_idly, nothing_then, end_fails, does_step, end_effect, EndsBlock, end_succeeds}
use Rattle.pas_steps.proofs.{Calls.{leads_as, leads_then, end_later, ends_back}, Sets.{put_freed, put_as, freed_both, freed_nothing}}
use Rattle.pas_free_log.specs.{Stamps.{stamped_by, stamps_by, page_count, pages_from, pages_met, stamps_with}, Frames.{putting_back, run_freed, PutsBack}}
use Rattle.pas_free_log.specs.{Frames.ending, Returns.{MayReturn, ReturnsPage, PageSteps, PagesSteps, first_on, count_on, ReturnsRun}, Conditions.IsRun}
use Rattle.pas_free_log.specs.{Conditions.{IsRunOnPage, IsNameOf, IsEntryOf, KnowsEpoch, MayEnd}, Endings.{guess_by, guess_by_kind, is_of, Tries, TriesBy}}
use Rattle.pas_free_log.specs.{Endings.{IsRefusedBy, last_step, IsEndOf, IsOfRegion, EndsOne, reason_by}, declared.ending.Outcome.Outcome}
use Rattle.pas_free_log.specs.{declared.{ending.Outcome.TheVariants.{Refused, Ended}, noting.EndedRun.EndedRun}, Flushes.EndsEntry, Noted.{IsRange, AreRanges}}
use Rattle.pas_free_log.specs.Noted.{run_of_kind, run_in, large_run}
use Rattle.pas_profile.specs.{Directories.{deed_word_of, directory_read, IsKind}, Profiles.{IsValid, IsDirectoryOf}, Blocks.{address_of, grain_of}}
use Rattle.pas_profile.specs.{Entries.{entry_of, is_sized}, declared.{directory.{Directory.Directory, Kind.Kind}, profile.Profile.Profile, word.Word.Word}}
use Rattle.pas_profile.specs.{declared.{name.Name.Name, event.{Event.Event, Range.Range}, entry.Entry.Entry}, Lives.{live_word, is_live, turn_of, grains_of}}
use Rattle.pas_profile.proofs.{Sizes.{class_grains_positive, class_grains_le}, Codecs.{read_is, is_live-live_word, turn_of-live_word}}
use Rattle.pas_bits.{specs.{Runs.{in_run, meets_page}, Masks.is_set, declared.mask.Mask4.Mask4}, proofs.Runs.{to_run, run_of, run_above, met_by}}
use Rattle.pas_rights.{specs.{Returns.Returned, Puts.{masked, MayPut, PutsMask}}, proofs.Orders.{settled_clear, same_page, ends}}

-- ==== The stamps of two calls, and steps that stamp no page.

-- What a step stamps comes before what was stamped: by the kinds of steps.
stamped_more : (s : Step) (e : ℕ) (ys xs : List (ℕ × ℕ)) → stamped_by s e (ys ++ xs) ≡ stamped_by s e ys ++ xs
stamped_more s e ys xs = grind arith

-- The stamps of two lists of steps are those of both, from where each began.
pub stamps_append : (v : View) (ys xs : List Made) → stamps_by v (ys ++ xs) ≡ stamps_by (xs ++ v) ys ++ stamps_by v xs
stamps_append v [] xs = refl
stamps_append v (y ∷ ys) xs =
    ap (λ w. stamped_by y.step (epoch_of w) (stamps_by v (ys ++ xs))) (append_assoc ys xs v)
    ∙ ap (stamped_by y.step (epoch_of (ys ++ (xs ++ v)))) (stamps_append v ys xs) ∙ stamped_more y.step _ _ _

no_stamp : (s : Step) (e : ℕ) (stamps : List (ℕ × ℕ)) → is_in (Stamping ∷ []) (kind_of s) ≡ false → stamped_by s e stamps ≡ stamps
no_stamp s e stamps h = grind (arith, true≢false)

-- the stamps of the steps before them
stamps_same : (ks : Kinds) → apart ks (Stamping ∷ []) ≡ true → (v : View) (ys xs : List Made) → Only ks ys → stamps_by v (ys ++ xs) ≡ stamps_by v xs
stamps_same ks w v [] xs only = refl
stamps_same ks w v (y ∷ ys) xs only = no_stamp y.step _ _ (in_apart ks _ _ w only.0) ∙ stamps_same ks w v ys xs only.1

no_stamps : (ks : Kinds) → apart ks (Stamping ∷ []) ≡ true → (v : View) (steps : List Made) → Only ks steps → stamps_by v steps ≡ []
no_stamps ks w v steps only = ap (stamps_by v) (sym (append-nil steps)) ∙ stamps_same ks w v steps [] only

-- ==== The steps for the grains of one page.

abbrev pub stamping : ℕ → ℕ → ℕ → List Made
stamping p deed stamped = made (Stamp p) stamped ∷ made (Look (Word.Deed p)) deed ∷ []

abbrev pub piece : ℕ → ℕ → ℕ → List Made → List Made → List Made
piece p deed stamped puts after = after ++ (puts ++ stamping p deed stamped)

-- ---- what is asked on the way
first_meets : (g n : ℕ) → 1 ≤ n → meets_page g n (g / 256) ≡ true
first_meets g n some = grind (arith, nat_tests, some)

-- the deed word of a page on which the actor ended a block is that of a directory of the region
read_here : (f : Profile) (v : View) (g n deed : ℕ) → 1 ≤ n → MayReturn g n v → AgreesDeed f v (g / 256) deed
    → (d : Directory) × (deed ≡ deed_word_of d) × IsDirectoryOf f d
read_here f v g n deed some met agrees = agrees.a_deed (agrees.ended (met.ended (g / 256) (first_meets g n some)))

stamp_held : (g n deed : ℕ) (v : View) → 1 ≤ n → MayReturn g n v → HoldsOn (made (Look (Word.Deed (g / 256))) deed ∷ v) (g / 256)
stamp_held g n deed v some met = (g, refl, met.held g (to_run g n g (omega arith) (omega (arith, some))))

may_stamp : (g n deed : ℕ) (v : View) → 1 ≤ n → MayReturn g n v
    → HoldsOn (made (Look (Word.Deed (g / 256))) deed ∷ v) (g / 256) × IsEpochKnown (known_epoch (made (Look (Word.Deed (g / 256))) deed ∷ v))
may_stamp g n deed v some met = (stamp_held g n deed v some met, met.epoch)

-- the grains of the mask on the page are the run's
pub run_grains : (g n : ℕ) (mask : Mask4) → g % 256 + n ≤ 256 → ((x : ℕ) → is_set mask x ≡ in_run (g % 256) n x) → (x : ℕ)
    → masked (g / 256) mask x ≡ in_run g n x
run_grains g n mask within bits x = ap (λ t. (g / 256 == x / 256) && t) (bits (x % 256)) ∙ grind (arith, nat_tests, within)

may_put_now : (g n deed stamped : ℕ) (mask : Mask4) (v : View) → ((x : ℕ) → masked (g / 256) mask x ≡ in_run g n x) → MayReturn g n v
    → MayPut (g / 256) mask (stamping (g / 256) deed stamped ++ v)
may_put_now g n deed stamped mask v grains met = record { held = λ x inside. met.held x (sym (grains x) ∙ inside); stamped = ends (g / 256) _ }

-- ---- what the steps leave
pub count_some : (g n : ℕ) → 1 ≤ n → page_count g n ≡ (g + n - 1) / 256 - g / 256 + 1
count_some g n some = ap (λ t. if t then 0 else (g + n - 1) / 256 - g / 256 + 1) (ne_eqb n 0 (λ z. omega (arith, z, some)))

count_one : (g n : ℕ) → 1 ≤ n → g % 256 + n ≤ 256 → page_count g n ≡ 1
count_one g n some within = count_some g n some ∙ omega (arith, some, within)

pages_one : (g n : ℕ) → 1 ≤ n → g % 256 + n ≤ 256 → pages_met g n ≡ g / 256 ∷ []
pages_one g n some within = ap (λ c. pages_from (g / 256) c) (count_one g n some within) ∙ ap (λ p. p ∷ []) (omega arith)

its_page : (g n q : ℕ) → page_count g n ≡ 1 → (g / 256 == q) ≡ in_run (g / 256) (page_count g n) q
its_page g n q one = grind (arith, nat_tests, one)

page_back : (g n deed stamped : ℕ) (puts after : List Made) → 1 ≤ n → g % 256 + n ≤ 256 → Only (Putting ∷ []) puts → OnlyReturns (g / 256) after
    → PutsBack g n (piece (g / 256) deed stamped puts after)
page_back g n deed stamped puts after some within kinds returns =
    let p = g / 256 in
    let are = returns_are p after returns in
    record {
      kinds = search (arith, only_both, only_within);
      stamps = λ v. stamps_same returning refl v after _ are ∙ stamps_same (Putting ∷ []) refl v puts _ kinds ∙ ap (stamps_with (epoch_of v)) (sym (pages_one g n some within));
    }

-- ---- the call
-- the directory of a page on which the actor ended a block
pub page_directory : {σ σ1 : Standing} (g n deed : ℕ) (r : Option Directory) → IsValid σ.seat.profile → 1 ≤ n → CanCall σ (MayReturn g n)
    → Makes σ σ1 (Look (Word.Deed (g / 256))) deed → r ≡ directory_read deed
    → (d : Directory) × (r ≡ Some d) × (deed ≡ deed_word_of d) × IsDirectoryOf σ.seat.profile d
page_directory {σ} {σ1} g n deed r valid some can look read =
    directory_told _ deed r valid read (read_here _ can.view g n deed some can.met (look.agrees can.view can.whole can.stood tt))

-- what is known before the grains are put back, and after it
pub record IsStamped (page word : ℕ) (w : View) : Type 0 where
  pub deed : known_deed w page ≡ word
  pub stamped : is_unstamped w page ≡ false
  pub examined : examines w page ≡ false

module _ {σ σ1 σ2 : Standing} (g n deed stamped : ℕ) (mask : Mask4) (some : 1 ≤ n) (grains : (x : ℕ) → masked (g / 256) mask x ≡ in_run g n x)
    (look : Makes σ σ1 (Look (Word.Deed (g / 256))) deed) (stamp : Makes σ1 σ2 (Stamp (g / 256)) stamped) where
  abbrev page : ℕ
  page = g / 256

  -- After a page was stamped, its part of a run may be put.
  pub stamped_so : Calls σ σ2 (MayReturn g n) (λ v w. Does nothing v w × MayPut page mask w × IsStamped page deed w) (stamping page deed stamped)
  stamped_so = record {
    adds = adds_step (adds_step adds_none look (λ v l stood met. tt)) stamp (λ v l stood met. may_stamp g n deed v some met);
    leads = record {
      from = λ v met agreed. (
        does_idly σ.seat.profile (LookDeed ∷ Stamping ∷ []) refl (stamping page deed stamped) v (refl, (refl, tt)) agreed,
        may_put_now g n deed stamped mask v grains met,
        record { deed = ap (λ t. if t then deed else known_deed v page) (same_page _); stamped = ends page _; examined = met.examined page (first_meets g n some) },
      );
    };
  }

  -- After a page's part of a run was put, it is held no longer.
  pub put_so : {σ3 : Standing} (p : PutsMask page mask σ2 σ3)
      → Calls σ σ3 (MayReturn g n) (λ v w. Does (put (in_run g n) page) v w × IsStamped page deed w) (p.steps ++ stamping page deed stamped)
  put_so p = call_then (λ v w. Does (put (in_run g n) page) v w × IsStamped page deed w) stamped_so p.calls (λ v met r. r.1)
      (λ v met r d. let w = stamping page deed stamped ++ v in (
        put_as _ _ page (does_after_nothing _ r.0 d) grains,
        search (arith, deeds_same, unstamped_same, examines_same),
      ))

  -- A page that was stamped, put back and settled is returned.
  pub page_returned : {σ3 σ4 : Standing} (d : Directory) → g % 256 + n ≤ 256 → deed ≡ deed_word_of d → PutsMask page mask σ2 σ3 → Returned page d σ3 σ4
      → ReturnsPage g n σ σ4
  page_returned d within is p r = record {
    steps = piece page deed stamped p.steps r.steps;
    calls = call_then _ (put_so p) r.calls (λ v met q. q.1.deed ∙ is)
        (λ v met q s. put_freed _ _ page q.0 (settled_clear page Kept s q.1.stamped q.1.examined) (λ x. its_page g n x (count_one g n some within)));
    order = record { directory = d; stamped = stamped; mask = mask; grains = grains; puts = p.steps; order = p.order; after = r.steps; returns = r.order; steps_are = ap (λ x. piece page x stamped p.steps r.steps) is };
    back = page_back g n deed stamped p.steps r.steps some within p.kinds r.returns;
  }

-- ==== The pages of a block, put back one after the other.

-- the one run and the next are the whole
join : (a m b n k x : ℕ) → b ≡ a + m → k ≡ m + n → (in_run a m x || in_run b n x) ≡ in_run a k x
join a m b n k x at whole = grind (arith, nat_tests, at, whole)

no_run : (g x : ℕ) → in_run g 0 x ≡ false
no_run g x = grind (arith, nat_tests)

-- Before any page of a run is put back, no step was made.
pub back_none : (g : ℕ) → PutsBack g 0 []
back_none g = record { kinds = tt; stamps = λ v. refl }

-- A run without grains that is freed leaves a view as it is.
pub none_freed : (g : ℕ) (v : View) → Does (run_freed g 0) v v
none_freed g v = freed_nothing (in_run g 0) (in_run (g / 256) 0) (does_none v) (no_run g) (no_run (g / 256))

-- the run begins here, or a page does, unless nothing is left
abbrev pub IsBorder : ℕ → ℕ → ℕ → Type 0
IsBorder g n from = from < g + n → first_on g (from / 256) ≡ from

-- how many pages are done, and which is the next one
count_so_far : (g n from : ℕ) → g ≤ from → from < g + n → IsBorder g n from → g / 256 + page_count g (from - g) ≡ from / 256
count_so_far g n from low high border = search (arith, cases_eq, count_some)

-- the next piece ends here
abbrev pub next_border : ℕ → ℕ → ℕ → ℕ
next_border g n from = min (g + n) ((from / 256 + 1) * 256)

pub record IsNextBorder (g n from next : ℕ) : Type 0 where
  pub some : from < next
  pub within : next ≤ g + n
  pub on_page : from % 256 + (next - from) ≤ 256
  pub border : IsBorder g n next

-- The next border of a run, behind one within it, is the end of that page or of the run.
pub next_is : (g n from next : ℕ) → g ≤ from → from < g + n → next ≡ next_border g n from → IsNextBorder g n from next
next_is g n from next low high is = record { some = omega (arith, is, high); within = omega (arith, is); on_page = omega (arith, is, high); border = λ left. omega (arith, is, low, left) }

count_next : (g n from next : ℕ) → g ≤ from → from < g + n → IsBorder g n from → IsNextBorder g n from next
    → page_count g (next - g) ≡ suc (page_count g (from - g))
count_next g n from next low high border is =
    omega (arith, count_so_far g n from low high border, count_some g (next - g) (omega (arith, low, is.some)), low, is.some, is.on_page)

-- ---- one page more
pages_more : (g n from next : ℕ) → g ≤ from → from < g + n → IsBorder g n from → IsNextBorder g n from next
    → pages_met g (next - g) ≡ pages_met from (next - from) ++ pages_met g (from - g)
pages_more g n from next low high border is = search (arith, count_next, count_so_far, pages_one)

-- The grains of a run up to one border more are put back page by page.
pub back_more : (g n from next : ℕ) (ys xs : List Made) → g ≤ from → from < g + n → IsBorder g n from → IsNextBorder g n from next → PutsBack g (from - g) xs
    → PutsBack from (next - from) ys → PutsBack g (next - g) (ys ++ xs)
back_more g n from next ys xs low high border is a b = record {
  kinds = only_both putting_back ys xs b.kinds a.kinds;
  stamps = λ v.
      stamps_append v ys xs ∙ ap (λ s. s ++ stamps_by v xs) (b.stamps (xs ++ v)) ∙ ap (λ s. stamps_with (epoch_of (xs ++ v)) (pages_met from (next - from)) ++ s) (a.stamps v)
      ∙ ap (λ o. stamps_with (or_zero o) (pages_met from (next - from)) ++ stamps_with (epoch_of v) (pages_met g (from - g))) (epoch_same putting_back refl xs v a.kinds)
      ∙ sym (map-append (λ page. (page, epoch_of v)) _ _) ∙ ap (stamps_with (epoch_of v)) (sym (pages_more g n from next low high border is));
}

-- The grains of a run up to one border more are freed together.
pub more_freed : {v w u : View} (g n from next : ℕ) → g ≤ from → from < g + n → IsBorder g n from → IsNextBorder g n from next
    → Does (run_freed g (from - g)) v w → Does (run_freed from (next - from)) w u → Does (run_freed g (next - g)) v u
more_freed g n from next low high border is d e =
    let one = count_one from _ (omega (arith, is.some)) is.on_page in
    let more = count_next g n from next low high border is in
    freed_both _ _ _ _ _ _ d e (λ x. join g _ from _ _ x (omega (arith, low)) (omega (arith, low, is.some)))
    (λ q. join _ _ _ _ _ q (sym (count_so_far g n from low high border)) (omega (arith, one, more)))

count_is : (g n from next : ℕ) → from < g + n → next ≡ next_border g n from → first_on g (from / 256) ≡ from → count_on g n (from / 256) ≡ next - from
count_is g n from next high is first = ap (λ k. min (g + n) (256 * (from / 256) + 256) - k) first ∙ omega (arith, is)

-- The steps for the pages of a run, with one more page, are in order.
pub order_more : (g n from next : ℕ) (ys xs : List Made) → g ≤ from → from < g + n → IsBorder g n from → next ≡ next_border g n from
    → PagesSteps (page_count g (from - g)) g n xs → PageSteps from (next - from) ys → PagesSteps (page_count g (next - g)) g n (ys ++ xs)
order_more g n from next ys xs low high border is before piece =
    let c = count_so_far g n from low high border in
    let first = border high in
    let one = subst (λ k. PageSteps (first_on g (from / 256)) k ys) (sym (count_is g n from next high is first)) (subst (λ s. PageSteps s (next - from) ys) (sym first) piece) in
    let here = subst (λ p. PageSteps (first_on g p) (count_on g n p) ys) (sym c) one in
    subst (λ k. PagesSteps k g n (ys ++ xs)) (sym (count_next g n from next low high border (next_is g n from next low high is))) (ys, xs, here, before, refl)

meets_more : (g n from k page : ℕ) → g ≤ from → from + k ≤ g + n → meets_page from k page ≡ true → meets_page g n page ≡ true
meets_more g n from k page low high meets = grind (arith, nat_tests, low, high, meets)

-- what is left of the run may be put back
pub may_more : (g n from next : ℕ) (xs : List Made) (v : View) → g ≤ from → IsNextBorder g n from next → PutsBack g (from - g) xs
    → Does (run_freed g (from - g)) v (xs ++ v) → MayReturn g n v → MayReturn from (next - from) (xs ++ v)
may_more g n from next xs v low is back does met =
    let some = is.some in
    let within = is.within in
    record {
      held = search (arith, run_of, run_above, to_run);
      ended = λ page meets. once_later (λ m before. ends_on m.step m.answer page ≡ true) xs v (met.ended page (meets_more g n from _ page low (omega (arith, some, within)) meets));
      examined = λ page meets. unexamined_over putting_back refl page xs v back.kinds (met.examined page (meets_more g n from _ page low (omega (arith, some, within)) meets));
      epoch = subst IsEpochKnown (sym (epoch_same putting_back refl xs v back.kinds)) met.epoch;
    }

pub on_page : (f : Profile) (g n from next : ℕ) → IsRun f g n → g ≤ from → from < g + n → IsNextBorder g n from next → IsRunOnPage f from (next - from)
on_page f g n from next run low high is =
    let some = is.some in
    record { some = omega (arith, some); page = (omega (arith, run.first, low), omega (arith, run.last, high)); within = is.on_page }

-- ==== The end of one name: the tries, and what the last one came to.

-- ---- guesses
abbrev pub IsLength : ℕ → Type 0
IsLength n = (1 ≤ n) × (n ≤ 256)

kind_length : (k : Kind) → IsKind k → IsLength (guess_by_kind k)
kind_length s is = grind (arith, class_grains_positive, class_grains_le)

by_length : (o : Option Directory) → ((d : Directory) → o ≡ Some d → IsKind d.kind) → IsLength (guess_by o)
by_length o is = grind (arith, kind_length)

-- The length that a deed word lets guess is one of a block.
pub guess_length : (deed : ℕ) → IsLength (guess_by (directory_read deed))
guess_length deed = by_length (directory_read deed) (λ d e. (read_is deed d e).0.kind)

-- What holds of each directory that may be there holds of the one that is.
kind_if : (o : Option Directory) → ((d : Directory) → o ≡ Some d → IsKind d.kind) → IfSome o (λ d. IsKind d.kind)
kind_if o is = grind arith

-- The directory that a deed word reads as has a kind.
pub known_kind : (deed : ℕ) (directory : Option Directory) → directory ≡ directory_read deed → IfSome directory (λ d. IsKind d.kind)
known_kind deed directory is = kind_if directory (λ d e. (read_is deed d (sym is ∙ e)).0.kind)

-- the look at the deed word
abbrev pub first_look : Name → ℕ → List Made
first_look name deed = made (Look (Word.Deed (address_of name / 4096))) deed ∷ []

-- A look at the deed word of a name's page is the first step for its entry.
pub looked : {σ σ1 : Standing} (name : Name) (deed : ℕ) → Makes σ σ1 (Look (Word.Deed (address_of name / 4096))) deed
    → Adds σ σ1 KnowsEpoch (first_look name deed)
looked name deed makes = adds_step adds_none makes (λ v l stood met. tt)

-- ---- an entry with a room
some_bytes : (entry : Entry) → is_sized entry ≡ true → 0 < entry.room
some_bytes entry sized = let ne = eqb-false entry.room 0 (not-true (entry.room == 0) sized) in omega (arith, ne)

-- An entry with a room has at least one grain.
pub some_room : (f : Profile) (entry : Entry) → IsEntryOf f entry → is_sized entry ≡ true → 1 ≤ entry.room / 16
some_room f entry of sized = let some = some_bytes entry sized in omega (arith, some, of.whole)

-- The end with the room of an entry is a step of the region.
pub room_end : (f : Profile) (entry : Entry) → IsEntryOf f entry → is_sized entry ≡ true → IsStepOf f (EndSized entry.name entry.room)
room_end f entry of sized = ((of.name.page, of.name.aligned, of.name.turn, some_room f entry of sized, omega (arith, of.within)), of.whole)

-- An end with a room that isn't answered by the live word of its turn and grains is refused.
pub refused_by_room : (entry : Entry) (a : ℕ) → is_sized entry ≡ true → a ≢ live_word entry.name.turn (entry.room / 16)
    → IsEndOf entry (entry.room / 16) a (Refused a)
refused_by_room entry a sized ne = (subst (λ t. IsRefusedBy t entry.name (entry.room / 16) a) (sym sized) ne, refl)

-- ---- what a try tells
pub ended_run : (f : Profile) (v : View) (name : Name) (guess a : ℕ) → 1 ≤ guess → a ≡ live_word name.turn guess → AgreesEnd f v name guess a
    → IsRun f (grain_of name) guess
ended_run f v name guess a some live agrees = let w = agrees.within live in record { some = some; first = w.0; last = w.1 }

is_of_name : (name : Name) (a : ℕ) → is_live a ≡ true → turn_of a ≡ name.turn → is_of name a ≡ true
is_of_name name a live turn = and_from (is_live a) (turn_of a == name.turn) live (eq-eqb (turn_of a) name.turn turn)

-- a block that was read as live with the name's turn, and still lives, has the length that it had
still_length : (f : Profile) (v : View) (name : Name) (first guess read a : ℕ) → is_of name read ≡ true → guess ≡ grains_of read
    → AgreesLife f (made (End name first) read ∷ v) (grain_of name) a → is_of name a ≡ true → grains_of a ≡ guess
still_length f v name first guess read a is length agrees lives =
    let old = and_parts (is_live read) (turn_of read == name.turn) is in
    let now = and_parts (is_live a) (turn_of a == name.turn) lives in
    agrees.again guess now.0
    (inl record { reads = eq-eqb _ _ refl; live = old.0; turn_is = eqb-true _ name.turn old.1 ∙ sym (eqb-true _ name.turn now.1); grains_are = sym length })

-- where another life word is read then, it lives no longer
pub gone_since : (f : Profile) (v : View) (name : Name) (first guess read a : ℕ) → is_of name read ≡ true → guess ≡ grains_of read
    → AgreesLife f (made (End name first) read ∷ v) (grain_of name) a → a ≢ live_word name.turn guess → is_of name a ≡ false
gone_since f v name first guess read a is length agrees ne = elim (cases_Bool _) [
  | inl lives ↦
      let now = and_parts (is_live a) (turn_of a == name.turn) lives in
      absurd (ne (agrees.live now.0 ∙ ap (λ t. live_word t (grains_of a)) (eqb-true _ name.turn now.1) ∙ ap (λ n. live_word name.turn n) (still_length f v name first guess read a is length agrees lives)))
  | inr none ↦ none
]

-- the block that ended at the second try
pub ended_again : (f : Profile) (v : View) (name : Name) (first guess read a : ℕ) → IsNameOf f name → is_of name read ≡ true → guess ≡ grains_of read
    → a ≡ live_word name.turn guess → AgreesEnd f (made (End name first) read ∷ v) name guess a → IsRun f (grain_of name) guess
ended_again f v name first guess read a named is length live agrees =
    search (arith, is_live-live_word, still_length, is_of_name, turn_of-live_word, ended_run)

-- the first try read another length
pub again : (name : Name) (deed first guess read : ℕ) → first ≡ guess_by (directory_read deed) → read ≢ live_word name.turn first → is_of name read ≡ true
    → guess ≡ grains_of read → Tries name (guess_by (directory_read deed)) guess (made (End name first) read ∷ [])
again name deed first guess read first_is ne is length = inr (read, (λ e. ne (e ∙ ap (λ n. live_word name.turn n) (sym first_is))), is, length, ap (λ n. made (End name n) read ∷ []) first_is)

-- the steps change nothing, make no event and stamp no page
abbrev pub trying : Kinds
trying = LookDeed ∷ Ending ∷ []

pub record AreIdle (steps : List Made) : Type 0 where
  pub kinds : Only trying steps
  pub does : (f : Profile) → Leads f AnyView (Does nothing) steps
  pub events : (k : ℕ) (v : View) → events_by k v steps ≡ []

-- ---- the event of a try
no_event : (k e : ℕ) (name : Name) (guess a : ℕ) → a ≢ live_word name.turn guess → is_of name a ≡ true → end_event k e name guess a ≡ None
no_event k e name guess a ne is = cc (ne_eqb a (live_word name.turn guess) ne)

-- a life word that isn't the name's is not that of its block
not_live : (name : Name) (guess a : ℕ) → name.turn < 2 ^ 40 - 1 → is_of name a ≡ false → a ≢ live_word name.turn guess
not_live name guess a turn is live = search (arith, false≢true, is_of_name, is_live-live_word, turn_of-live_word)

-- ---- the steps before the last try
pub idle_look : (name : Name) (deed : ℕ) → AreIdle (first_look name deed)
idle_look name deed = record { kinds = (refl, tt); does = λ f. leads_idly f (LookDeed ∷ []) refl _ (refl, tt); events = λ k v. refl }

idle_try : (name : Name) (deed first read : ℕ) → read ≢ live_word name.turn first → is_of name read ≡ true
    → AreIdle (made (End name first) read ∷ first_look name deed)
idle_try name deed first read ne is = record {
  kinds = (refl, (refl, tt));
  does = λ f. nothing_then ((idle_look name deed).does f) (end_fails f name first read ne);
  events = λ k v. ap (λ o. with_event o []) (no_event k _ name first read ne is);
}

-- The look and the tries of a name before its last do nothing, and make no event.
pub tries_idle : (name : Name) (deed first guess : ℕ) (before : List Made) → Tries name first guess before → AreIdle (before ++ first_look name deed)
tries_idle name deed first guess before (inl t) = subst (λ s. AreIdle (s ++ first_look name deed)) (sym t.1) (idle_look name deed)
tries_idle name deed first guess before (inr t) = subst (λ s. AreIdle (s ++ first_look name deed)) (sym t.4) (idle_try name deed first t.0 t.1 t.2)

-- the steps of a try
pub tried : {σ σ1 σ2 : Standing} (name : Name) (deed first guess a : ℕ) (before : List Made) → Tries name first guess before
    → Adds σ σ1 KnowsEpoch (before ++ first_look name deed) → Makes σ1 σ2 (End name guess) a
    → Adds σ σ2 KnowsEpoch (made (End name guess) a ∷ before ++ first_look name deed)
tried name deed first guess a before tries adds makes = adds_step adds makes (λ v l stood met. subst IsEpochKnown (sym (epoch_same trying refl _ v (tries_idle name deed first guess before tries).kinds)) met)

-- ==== The step that tries an end, by a length or by a room: what holds of both.

-- the step ends the block of the name where it has so many grains
pub record EndsWith (name : Name) (n : ℕ) (s : Step) : Type 0 where
  pub kind : kind_of s ≡ Ending
  pub moves : (a x : ℕ) → grain_move s a x ≡ (if succeeds name n a && in_run (grain_of name) n x then Ends (grain_of name) else Stays)
  pub ends : (a page : ℕ) → ends_on s a page ≡ (succeeds name n a && meets_page (grain_of name) n page)
  pub hits : (f : Profile) (a : ℕ) → a ≡ live_word name.turn n → Leads f AnyView (EndsBlock (grain_of name) n) (made s a ∷ [])
  pub fails : (f : Profile) (a : ℕ) → a ≢ live_word name.turn n → Leads f AnyView (Does nothing) (made s a ∷ [])
  pub event : (k e a : ℕ) → a ≡ live_word name.turn n → event_of k e s a ≡ Some (Event.End k name e)
  pub stamps : (e : ℕ) (xs : List (ℕ × ℕ)) → stamped_by s e xs ≡ xs
  pub agrees : (f : Profile) (v : View) (a : ℕ) → Agrees f v s a → AgreesEnd f v name n a

-- An end that finds the block with its length makes the event of the end.
success : (k e : ℕ) (name : Name) (n a : ℕ) (other : Option Event) → a ≡ live_word name.turn n
    → (if succeeds name n a then Some (Event.End k name e) else other) ≡ Some (Event.End k name e)
success k e name n a other live = ap (λ t. if t then Some (Event.End k name e) else other) (eq-eqb a (live_word name.turn n) live)

ends_by_length : (name : Name) (n : ℕ) → EndsWith name n (End name n)
ends_by_length name n = search (arith, end_succeeds, end_fails, success)

sized_does : (f : Profile) (name : Name) (room a : ℕ) (t : Bool) (v : View) → (a == live_word name.turn (room / 16)) ≡ t → Agrees f v (EndSized name room) a
    → Does (end_effect t (grain_of name) (room / 16)) v (made (EndSized name room) a ∷ v)
sized_does f name room a t v e agrees = subst (λ x. Does (end_effect x (grain_of name) (room / 16)) v (made (EndSized name room) a ∷ v)) e (does_step f _ a v refl agrees)

by_room : (name : Name) (room : ℕ) → EndsWith name (room / 16) (EndSized name room)
by_room name room = record {
  kind = refl;
  moves = λ a x. refl;
  ends = λ a page. refl;
  hits = λ f a live. record { from = λ v met agreed. record { does = sized_does f name room a true v (eq-eqb a _ live) agreed.0; apart = agreed.0.apart live } };
  fails = λ f a ne. record { from = λ v met agreed. sized_does f name room a false v (ne_eqb a _ ne) agreed.0 };
  event = λ k e a live. success k e name _ a _ live;
  stamps = λ e xs. refl;
  agrees = λ f v a h. h;
}

-- the last try of an entry is such a step
pub last_ends : (t : Bool) (entry : Entry) (n : ℕ) → (t ≡ true → n ≡ entry.room / 16) → EndsWith entry.name n (last_step t entry n)
last_ends true entry n is = subst (λ m. EndsWith entry.name m (EndSized entry.name entry.room)) (sym (is refl)) (by_room entry.name entry.room)
last_ends false entry n is = ends_by_length entry.name n

-- ---- the event of a refusal
refusal : (k e : ℕ) (name : Name) (guess a : ℕ) → a ≢ live_word name.turn guess → is_of name a ≡ false
    → event_of k e (End name guess) a ≡ Some (Event.Reject k name (reason_of name a))
refusal k e name guess a ne is = cc (ne_eqb a (live_word name.turn guess) ne)

sized_refusal : (k e : ℕ) (name : Name) (room a : ℕ) → a ≢ live_word name.turn (room / 16)
    → event_of k e (EndSized name room) a ≡ Some (Event.Reject k name (sized_reason name room a))
sized_refusal k e name room a ne = ap (λ t. if t then Some (Event.End k name e) else Some (Event.Reject k name (sized_reason name room a))) (ne_eqb a _ ne)

-- The last try of an entry, refused, shows the refusal with the true reason.
pub last_refused : (t : Bool) (entry : Entry) (n k e a : ℕ) → (t ≡ true → n ≡ entry.room / 16) → IsRefusedBy t entry.name n a → a ≢ live_word entry.name.turn n
    → event_of k e (last_step t entry n) a ≡ Some (Event.Reject k entry.name (reason_by t entry a))
last_refused t entry n k e a is refused ne = grind (arith, sized_refusal, refusal)

-- ==== The end of one entry.

-- the length is that of the room, where one was named
pub guess_is : (t : Bool) (entry : Entry) (first guess : ℕ) (before : List Made) → TriesBy t entry first guess before → t ≡ true → guess ≡ entry.room / 16
guess_is t entry first guess before tries e = grind (arith, true≢false)

-- what the last try came to, by what its answer agrees with
ends_by : {σ σ1 : Standing} (entry : Entry) (outcome : Outcome) (directory : Option Directory) (deed guess a : ℕ) (before : List Made)
    → directory ≡ directory_read deed → TriesBy (is_sized entry) entry (guess_by (directory_read deed)) guess before
    → Adds σ σ1 KnowsEpoch (made (last_step (is_sized entry) entry guess) a ∷ before ++ first_look entry.name deed) → CanCall σ KnowsEpoch
    → ((v : View) → AgreesEnd σ.seat.profile (before ++ first_look entry.name deed ++ v) entry.name guess a
    → IsEndOf entry guess a outcome × IsOfRegion σ.seat.profile entry.name outcome)
    → EndsOne entry σ σ1 outcome directory
ends_by {σ} entry outcome directory deed guess a before tells tries adds can told =
    let last = last_ends _ entry guess (guess_is _ entry _ guess before tries) in
    let came = told can.view (last.agrees σ.seat.profile _ a (adds.agreed can.view can.whole can.stood can.met).0) in
    record {
      steps = made (last_step (is_sized entry) entry guess) a ∷ before ++ first_look entry.name deed;
      adds = adds;
      order = record { deed = deed; before = before; guess = guess; answer = a; tries = tries; comes_to = came.0; steps_are = refl };
      of_region = came.1;
      tells = tells;
    }

-- by the name alone
pub ends_named : {σ σ1 σ2 : Standing} (name : Name) (outcome : Outcome) (directory : Option Directory) (deed guess a : ℕ) (before : List Made)
    → directory ≡ directory_read deed → Tries name (guess_by (directory_read deed)) guess before → Adds σ σ1 KnowsEpoch (before ++ first_look name deed)
    → Makes σ1 σ2 (End name guess) a
    → CanCall σ KnowsEpoch
    → ((v : View) → AgreesEnd σ.seat.profile (before ++ first_look name deed ++ v) name guess a
    → IsEndOf (entry_of name) guess a outcome × IsOfRegion σ.seat.profile name outcome)
    → EndsOne (entry_of name) σ σ2 outcome directory
ends_named name outcome directory deed guess a before tells tries adds makes =
    ends_by _ outcome directory deed guess a before tells tries (tried name deed (guess_by (directory_read deed)) guess a before tries adds makes)

-- an entry with a room has the one try
pub ends_by_room : {σ σ1 σ2 : Standing} (entry : Entry) (outcome : Outcome) (directory : Option Directory) (deed a : ℕ) → is_sized entry ≡ true
    → directory ≡ directory_read deed → Adds σ σ1 KnowsEpoch (first_look entry.name deed) → Makes σ1 σ2 (EndSized entry.name entry.room) a
    → CanCall σ KnowsEpoch
    → ((v : View) → AgreesEnd σ.seat.profile (first_look entry.name deed ++ v) entry.name (entry.room / 16) a
    → IsEndOf entry (entry.room / 16) a outcome × IsOfRegion σ.seat.profile entry.name outcome)
    → EndsOne entry σ σ2 outcome directory
ends_by_room {σ} {σ2 = σ2} entry outcome directory deed a sized tells adds makes can told = ends_by entry outcome directory deed (entry.room / 16) a [] tells
    (subst (λ t. TriesBy t entry (guess_by (directory_read deed)) (entry.room / 16) []) (sym sized) (refl, refl))
    (subst (λ t. Adds σ σ2 KnowsEpoch (made (last_step t entry (entry.room / 16)) a ∷ first_look entry.name deed)) (sym sized) (adds_step adds makes (λ v l stood met. met))) can told

-- ---- the tries before the last one
-- They change nothing.
pub idle_before : (t : Bool) (entry : Entry) (deed first guess : ℕ) (before : List Made) → TriesBy t entry first guess before
    → AreIdle (before ++ first_look entry.name deed)
idle_before true entry deed first guess before tries = subst (λ s. AreIdle (s ++ first_look entry.name deed)) (sym tries.1) (idle_look entry.name deed)
idle_before false entry deed first guess before tries = tries_idle entry.name deed first guess before tries

module _ {σ σ1 : Standing} {entry : Entry} {outcome : Outcome} {directory : Option Directory} (e : EndsOne entry σ σ1 outcome directory) where
  abbrev first_steps : List Made
  first_steps = e.order.before ++ first_look entry.name e.order.deed

  -- The steps before the end are idle.
  idle : AreIdle first_steps
  idle = idle_before (is_sized entry) entry e.order.deed (guess_by (directory_read e.order.deed)) e.order.guess e.order.before e.order.tries

  -- The last step is the end of the entry's block.
  last : EndsWith entry.name e.order.guess (last_step (is_sized entry) entry e.order.guess)
  last = last_ends _ entry e.order.guess (guess_is _ entry _ e.order.guess e.order.before e.order.tries)

  end_kinds : Only ending e.steps
  end_kinds = subst (Only ending) (sym e.order.steps_are) (ap (is_in ending) last.kind, only_within trying ending first_steps refl idle.kinds)

  end_stamps : (v : View) → stamps_by v e.steps ≡ []
  end_stamps v = ap (stamps_by v) e.order.steps_are ∙ last.stamps _ (stamps_by v first_steps) ∙ no_stamps trying refl v first_steps idle.kinds

  -- the last one makes the event
  end_shows : (k : ℕ) (v : View) (event : Event) → event_of k (epoch_of v) (last_step (is_sized entry) entry e.order.guess) e.order.answer ≡ Some event
      → events_by k v e.steps ≡ event ∷ []
  end_shows k v event is = cc (epoch_same trying refl first_steps v idle.kinds, idle.events k v)

-- ---- a name that was refused
pub not_ended : (t : Bool) (name : Name) (guess a : ℕ) → name.turn < 2 ^ 40 - 1 → IsRefusedBy t name guess a → a ≢ live_word name.turn guess
not_ended t name guess a turn refused = grind (arith, not_live)

-- What an entry came to is so by whatever name its outcome has.
pub came_to : {σ σ1 : Standing} {entry : Entry} {directory : Option Directory} {outcome : Outcome} (o : Outcome) → outcome ≡ o
    → EndsOne entry σ σ1 outcome directory → EndsOne entry σ σ1 o directory
came_to {σ} {σ1} {entry} {directory} o is e = subst (λ x. EndsOne entry σ σ1 x directory) is e

-- An entry whose end was refused is done, and no block ended.
pub entry_refused : {σ σ1 : Standing} (entry : Entry) (read : ℕ) (directory : Option Directory) → IsEntryOf σ.seat.profile entry
    → EndsOne entry σ σ1 (Refused read) directory → EndsEntry entry σ σ1 None
entry_refused {σ} entry read directory named e =
    let o = e.order in
    let f : Profile = σ.seat.profile in
    let ne = not_ended _ entry.name o.guess o.answer named.name.turn o.comes_to.0 in
    record {
      outcome = Refused read;
      directory = directory;
      run_is = refl;
      range = All-nil (λ run. IsRange run.range);
      steps = e.steps;
      calls = record { adds = adds_under e.adds (λ v l stood met. met.epoch); leads = leads_as (subst (Leads f AnyView _) (sym o.steps_are) (nothing_then ((idle e).does f) ((last e).fails f o.answer ne))) (λ v met. tt) (λ v w met d. d) };
      kinds = end_kinds e;
      order = record { ends = e.steps; order = o; directory = e.tells; after = []; returns = refl; steps_are = refl };
      event = λ v. end_shows e σ.seat.actor v _
          (cc (last_refused _ entry o.guess σ.seat.actor _ o.answer (guess_is _ entry _ o.guess o.before o.tries) o.comes_to.0 ne));
      stamps = end_stamps e;
    }

-- ---- the pages of a large block are some
range_of_kind : (kind : Kind) (heap : ℕ) (range : Range) → IsRange range → AreRanges (option_to_list (run_of_kind kind heap range))
range_of_kind kind heap range is = grind arith

range_in : (directory : Option Directory) (range : Range) → IsRange range → AreRanges (option_to_list (run_in directory range))
range_in directory range is = grind (arith, range_of_kind)

whole_range : (f : Profile) (name : Name) (grains : ℕ) (directory : Option Directory) → IsValid f → IsRun f (grain_of name) grains
    → AreRanges (option_to_list (large_run name grains directory))
whole_range f name grains directory valid run = search (arith, cases_Bool, and_parts, eqb-true, range_in)

-- ---- a block that ended
ended_held : (t inside : Bool) (held : Bool) (g : ℕ) → t ≡ true → inside ≡ true → held_after (if t && inside then Ends g else Stays) held ≡ true
ended_held t inside held g a b = ap (λ x. held_after (if x && inside then Ends g else Stays) held) a ∙ ap (λ x. held_after (if x then Ends g else Stays) held) b

-- each page that the run meets is one of its pages
page_of_run : (g n page : ℕ) → 1 ≤ n → meets_page g n page ≡ true → in_run (g / 256) (page_count g n) page ≡ true
page_of_run g n page some meets = search (arith, met_by, count_some, to_run)

module _ {σ σ1 : Standing} {entry : Entry} {grains : ℕ} {directory : Option Directory} (e : EndsOne entry σ σ1 (Ended grains) directory) where
  abbrev g : ℕ
  g = grain_of entry.name

  ended_last : EndsWith entry.name grains (last_step (is_sized entry) entry e.order.guess)
  ended_last = subst (λ n. EndsWith entry.name n (last_step (is_sized entry) entry e.order.guess)) (sym e.order.comes_to.1) (last e)

  -- The end's answer is the word of the live block.
  lived : e.order.answer ≡ live_word entry.name.turn grains
  lived = e.order.comes_to.0 ∙ ap (live_word entry.name.turn) (sym e.order.comes_to.1)

  may_return : (v : View) → MayEnd v → MayReturn g grains (e.steps ++ v)
  may_return v met = search (arith, ended_last, ended_held, eq-eqb, lived, and_from, unexamined_over, end_kinds, epoch_same)

  -- the tries and the end
  ends_block : Leads σ.seat.profile AnyView (EndsBlock g grains) e.steps
  ends_block = subst (Leads σ.seat.profile AnyView (EndsBlock g grains)) (sym e.order.steps_are) (leads_then _ ((idle e).does σ.seat.profile)
      (ended_last.hits σ.seat.profile e.order.answer lived) (λ v w met d. tt) (λ v w u d x. end_later g grains d x))

  -- An entry whose end came true ended the block, whose grains may be returned.
  pub ended_call : Calls σ σ1 MayEnd (λ v w. EndsBlock g grains v w × MayReturn g grains w) e.steps
  ended_call = record { adds = adds_under e.adds (λ v l stood met. met.epoch); leads = record { from = λ v met agreed. (ends_block.from v tt agreed, may_return v met) } }

  -- whoever ended it and put its grains back is as before
  pub entry_ended : {σ2 : Standing} (run : Option EndedRun) → IsValid σ.seat.profile → ReturnsRun g grains σ1 σ2 → run ≡ large_run entry.name grains directory
      → EndsEntry entry σ σ2 run
  entry_ended run valid r is = record {
    outcome = Ended grains;
    directory = directory;
    run_is = ap option_to_list is;
    range = subst (λ o. AreRanges (option_to_list o)) (sym is) (whole_range _ entry.name grains directory valid e.of_region);
    steps = r.steps ++ e.steps;
    calls = call_then _ ended_call r.calls (λ v met q. q.1) (λ v met q b. ends_back g grains _ q.0 b (λ page. page_of_run g grains page e.of_region.some));
    kinds = only_both ending r.steps e.steps (only_within putting_back ending r.steps refl r.back.kinds) (end_kinds e);
    order = record { ends = e.steps; order = e.order; directory = e.tells; after = r.steps; returns = r.order; steps_are = refl };
    event = λ v. events_same putting_back refl σ.seat.actor v r.steps e.steps r.back.kinds ∙ end_shows e σ.seat.actor v _ (ended_last.event σ.seat.actor (epoch_of v) e.order.answer lived);
    stamps = search (arith, stamps_append, end_stamps, append-nil, epoch_same, end_kinds);
  }
