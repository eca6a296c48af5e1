-- Each step is allowed by the steps before it.
use Rattle.std.proofs.{Common.{◌≡◌, ◌≢◌, ℕ, ◌-◌, ◌/◌, ◌^◌, ◌⊎◌, true, [], ◌∷◌, inl, inr, refl, subst, arith}, lemmas.Bool.cases_eq}
use Rattle.pas_bits.{specs.Runs.in_run, proofs.Runs.run_of}
use Rattle.pas_profile.specs.{Profiles.{IsDirectoryOf, IsPage, IsWordOf}, declared.{directory.{Directory.Directory, Kind.TheVariants.Bitfit}, name.Block.Block}}
use Rattle.pas_profile.specs.declared.word.Word.{Word}
use Rattle.pas_steps.specs.{Allowed.{IsBlockOf, KnowsBearing, MayGiveNow}, Clear.IsClear, Desks.made, Views.{View, any_below, holds}}
use Rattle.pas_steps.specs.{declared.step.Step.TheVariants.{Look, Deed, Back, Take, Give, End}, Kinds.{Kinds, Only, LookEpoch, LookLife, Deeding, Backing}}
use Rattle.pas_steps.{specs.Kinds.{Taking, Giving}, proofs.{Apart.unstamped_same, Calls.{owes_over, unexamined_over}, Nothing.nothing_yet}}
use Rattle.pas_plain.proofs.Desks.{can, spare}
use Rattle.pas_tests.{specs.Walks.lone_region, proofs.Walked.at}
use Rattle.pas_tests.proofs.plain.give.Goals as goal

abbrev directory : Directory
directory = record { heap = 0; kind = Bitfit }

abbrev block : Block
block = record { name = record { address = record { 0 = 8176 }; turn = 0 }; room = 32; heap = 0 }

of_region : IsDirectoryOf lone_region directory
of_region = record { heap = omega arith; kind = tt; class = tt }

-- what was done before the block is given
abbrev before : View
before = made (Look (Word.Life 1 255)) 0 ∷ made (Back 2) 0 ∷ made (Back 1) 0 ∷ made (Take 2 0 1) (2 ^ 64 - 1) ∷ made (Take 1 3 (2 ^ 63)) (2 ^ 64 - 1)
    ∷ made (Deed 2 directory) 0 ∷ made (Deed 1 directory) 0 ∷ made (Look Word.Epoch) 0 ∷ []

bears : (page : ℕ) → (page ≡ 1) ⊎ (page ≡ 2) → KnowsBearing lone_region before 0 page
unfolding any_below
bears page (inl e) = rw e (record { backed = refl; directory = directory; of_profile = of_region; deed = refl; of_heap = refl; stamped = refl })
bears page (inr e) = rw e (record { backed = refl; directory = directory; of_profile = of_region; deed = refl; of_heap = refl; stamped = refl })

of_each : (P : ℕ → Type 0) (g : ℕ) → P 511 → P 512 → in_run 511 2 g ≡ true → P g
of_each P g first last within = let run = run_of 511 2 g within in elim (cases_eq 511 g) [
  | inl e ↦ subst P e first
  | inr ne ↦ (let e : 512 ≡ g = omega (arith, run.0, run.1, ne) in subst P e last)
]

may_give : MayGiveNow lone_region before block
may_give = record {
  aligned = refl;
  whole = refl;
  some = omega arith;
  held = λ g. of_each (λ x. holds before x ≡ true) g refl refl;
  bears = λ g. of_each (λ x. KnowsBearing lone_region before 0 (x / 256)) g (bears 1 (inl refl)) (bears 2 (inr refl));
  word = 0;
  known = refl;
  turn_is = refl;
  few = omega arith;
}

first : IsPage lone_region 1
first = (omega arith, omega arith)

second : IsPage lone_region 2
second = (omega arith, omega arith)

of_block : IsBlockOf lone_region block
of_block = record { first = omega arith; last = omega arith; heap = omega arith; turn = omega arith }

known : ◌≢◌ {A = ℕ} 65556 0
known none = absurd (omega (arith, none))

life : IsWordOf lone_region (Word.Life 1 255)
life = (omega arith, omega arith, omega arith)

pub walk-requires-clause-steps : goal.walk-requires-clause-steps
walk-requires-clause-steps c = (
  tt,
  tt,
  refl,
  (
    (first, of_region),
    tt,
    refl,
    (
      (second, of_region),
      tt,
      refl,
      (
        (first, omega arith, omega arith),
        refl,
        refl,
        (
          (second, omega arith, omega arith),
          refl,
          refl,
          (first, ((511, refl, refl), known), refl, (second, ((512, refl, refl), known), refl, (life, tt, refl, (of_block, may_give, refl, tt)))),
        ),
      ),
    ),
  ),
)

-- ---- once it is given
abbrev given : View
given = made (Give block) 0 ∷ before

abbrev quiet : Kinds
quiet = LookEpoch ∷ LookLife ∷ Deeding ∷ Backing ∷ Taking ∷ Giving ∷ []

all_quiet : Only quiet given
all_quiet = (refl, (refl, (refl, (refl, (refl, (refl, (refl, (refl, (refl, tt)))))))))

clear : IsClear given
clear = record {
  on = λ page. record {
    stamped = unstamped_same quiet refl page given [] all_quiet;
    owes = owes_over quiet refl page given [] all_quiet (nothing_yet.clear.on page).owes;
    examined = unexamined_over quiet refl page given [] all_quiet refl;
  };
}

pub returns-clause-clear : goal.returns-clause-clear
returns-clause-clear c = record { view = given; whole = _; stood = c.walk.ensures.stood; met = clear }

pub returns-clause-end : goal.returns-clause-end
returns-clause-end c = can (End block.name 2) (at c.walk.ensures) ((omega arith, omega arith), refl, omega arith, omega arith, omega arith) tt

pub returns-clause-room : goal.returns-clause-room
returns-clause-room c = spare 3 (at c.walk.ensures) (omega arith)
