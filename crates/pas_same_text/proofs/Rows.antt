-- The replays of worked traces, by computing.
use Rattle.std.proofs.Common.{◌≡◌, true, false, [], ◌∷◌, codes, refl, ℕ, List, Result, map, take}
use Rattle.pas_same_text.proofs.{Common.{Kind, numbers_from, Reason, TraceFault}, Seen.{seen, shown, row_of, marked, totalled, deed_of, back_of, unback_of}}
use Rattle.pas_same_text.proofs.Seen.{give_of, freed_of, ended_of, no_block_of, size_differs_of, outside_of, unaligned_of, no_space_of, held_of, skipped_of}
use Rattle.pas_same_text.proofs.Seen.{kept_of, tick_of, pass_of, young_of, stopped_of, phase_of, closed, counted, guarded_of, lowered_of, in_use_of}
use Rattle.pas_same_text.{proofs.Seen.{not_offered_of, Seen, faulty}, specs.{Pages.each_of, Passes.free_bits}}
use Rattle.pas_report.specs.Reports.{grains_that}

row_another_thread : seen (codes "pas 1 pages 1 threads 2 heaps 1 age 2\na 1 1 0 16 16\na 2 2 0 16 16\nf 2 2\n")
    ≡ shown (deed_of 1 1 0 (Kind.Class 0) ∷ back_of 1 1 ∷ give_of 1 4096 0 16 0 ∷ held_of 2 1 2 ∷ skipped_of 2 2 ∷ closed ∷ [])
    (row_of 1 0 (Kind.Class 0) 1 255 0 (marked true true false false) ∷ []) (totalled 1 1 1 1 0)
unfolding seen grains_that each_of free_bits
row_another_thread = refl

row_border_sizes : seen (codes "pas 1 pages 8 threads 1 heaps 1 age 2\na 1 1 0 0 16\na 1 2 0 1 16\na 1 3 0 512 16\na 1 4 0 513 16\n")
    ≡ shown (deed_of 1 1 0 (Kind.Class 0) ∷ back_of 1 1 ∷ give_of 1 4096 0 16 0 ∷ give_of 1 4112 0 16 0 ∷ deed_of 1 2 0 (Kind.Class 15) ∷ back_of 1 2 ∷ give_of 1 8192 0 512 0 ∷ deed_of 1 3 0 Kind.Bitfit ∷ back_of 1 3 ∷ give_of 1 12288 0 528 0 ∷ closed ∷ []) (row_of 1 0 (Kind.Class 0) 2 254 0 (marked true true false false) ∷ row_of 2 0 (Kind.Class 15) 1 224 0 (marked true true false false) ∷ row_of 3 0 Kind.Bitfit 1 223 0 (marked true true false false) ∷ []) (totalled 3 3 4 4 0)
unfolding seen grains_that each_of free_bits
row_border_sizes = refl

row_followed : seen (codes "pas 1 pages 2 threads 1 heaps 1 age 1\na 1 1 0 600 16\nf 1 1\nflush 1\ntick 1\npass\na 1 2 0 100 16\n")
    ≡ shown (deed_of 1 1 0 Kind.Bitfit ∷ back_of 1 1 ∷ give_of 1 4096 0 608 0 ∷ freed_of 1 4096 0 0 ∷ tick_of 1 ∷ pass_of 1 ∷ unback_of 0 1 1 ∷ deed_of 1 2 0 (Kind.Class 6) ∷ back_of 1 2 ∷ give_of 1 8192 0 112 0 ∷ closed ∷ []) (row_of 1 0 Kind.Bitfit 0 256 0 (marked false true false false) ∷ row_of 2 0 (Kind.Class 6) 1 249 0 (marked true true false false) ∷ []) (totalled 2 1 1 2 1)
unfolding seen grains_that each_of free_bits
row_followed = refl

row_four_passes : seen (codes "pas 1 pages 1 threads 1 heaps 1 age 2\na 1 1 0 16 16\ntick 3\nf 1 1\nstop 1\ntick 4\npass\ntick 5\npass\npass\na 1 2 0 16 16\n")
    ≡ shown (deed_of 1 1 0 (Kind.Class 0) ∷ back_of 1 1 ∷ give_of 1 4096 0 16 0 ∷ tick_of 3 ∷ freed_of 1 4096 0 3 ∷ tick_of 4 ∷ pass_of 4 ∷ young_of 1 3 ∷ tick_of 5 ∷ pass_of 5 ∷ unback_of 0 1 5 ∷ pass_of 5 ∷ back_of 1 1 ∷ give_of 1 4096 1 16 0 ∷ closed ∷ []) (row_of 1 0 (Kind.Class 0) 1 255 3 (marked true true false false) ∷ []) (totalled 1 1 1 2 1)
unfolding seen grains_that each_of free_bits
row_four_passes = refl

row_held : seen (codes "pas 1 pages 1 threads 2 heaps 1 age 2\na 1 1 0 16 16\na 2 2 0 16 16\nphase\nidle 0\na 2 3 0 16 16\n")
    ≡ shown (deed_of 1 1 0 (Kind.Class 0) ∷ back_of 1 1 ∷ give_of 1 4096 0 16 0 ∷ held_of 2 1 2 ∷ phase_of 2 ∷ stopped_of 1 ∷ give_of 2 4112 0 16 0 ∷ closed ∷ []) (row_of 1 0 (Kind.Class 0) 2 254 0 (marked true true false false) ∷ []) (totalled 1 1 2 2 0)
unfolding seen grains_that each_of free_bits
row_held = refl

row_holes : seen
    (codes "pas 1 pages 1 threads 1 heaps 1 age 2\na 1 1 0 528 16\na 1 2 0 528 16\na 1 3 0 528 16\nf 1 2\nflush 1\na 1 4 0 528 16\nf 1 4\nflush 1\na 1 5 0 529 16\n")
    ≡ shown (deed_of 1 1 0 Kind.Bitfit ∷ back_of 1 1 ∷ give_of 1 4096 0 528 0 ∷ give_of 1 4624 0 528 0 ∷ give_of 1 5152 0 528 0 ∷ freed_of 1 4624 0 0 ∷ give_of 1 4624 1 528 0 ∷ freed_of 1 4624 1 0 ∷ give_of 1 5680 0 544 0 ∷ closed ∷ []) (row_of 1 0 Kind.Bitfit 3 156 0 (marked true true false false) ∷ []) (totalled 1 1 3 5 2)
unfolding seen grains_that each_of free_bits
row_holes = refl

row_isolation : seen (codes "pas 1 pages 1 threads 1 heaps 2 age 2\na 1 1 0 16 16\nf 1 1\nstop 1\na 1 2 1 16 16\nf 1 2\n")
    ≡ shown (deed_of 1 1 0 (Kind.Class 0) ∷ back_of 1 1 ∷ give_of 1 4096 0 16 0 ∷ freed_of 1 4096 0 0 ∷ no_space_of 1 2 ∷ skipped_of 1 2 ∷ closed ∷ [])
    (row_of 1 0 (Kind.Class 0) 0 256 0 (marked true true false true) ∷ []) (totalled 1 1 0 1 1)
unfolding seen grains_that each_of free_bits
row_isolation = refl

row_large_blocks : seen (codes "pas 1 pages 4 threads 1 heaps 1 age 2\na 1 1 0 2049 16\na 1 2 0 8192 16\nf 1 1\nf 1 2\nflush 1\na 1 3 0 16384 16\n")
    ≡ shown (deed_of 1 1 0 Kind.Large ∷ back_of 1 1 ∷ give_of 1 4096 0 4096 0 ∷ deed_of 1 2 0 Kind.Large ∷ deed_of 1 3 0 Kind.Large ∷ back_of 1 2 ∷ back_of 1 3 ∷ give_of 1 8192 0 8192 0 ∷ freed_of 1 4096 0 0 ∷ freed_of 1 8192 0 0 ∷ deed_of 1 4 0 Kind.Large ∷ back_of 1 4 ∷ give_of 1 4096 1 16384 0 ∷ closed ∷ []) (row_of 1 0 Kind.Large 1 0 0 (marked true false true true) ∷ row_of 2 0 Kind.Large 0 0 0 (marked true false true true) ∷ row_of 3 0 Kind.Large 0 0 0 (marked true false true true) ∷ row_of 4 0 Kind.Large 0 0 0 (marked true false true false) ∷ []) (totalled 4 4 1 3 2)
unfolding seen grains_that each_of free_bits
row_large_blocks = refl

row_late_free : seen (codes "pas 1 pages 1 threads 2 heaps 1 age 2\na 1 1 0 16 16\nf 1 1\nstop 1\na 2 2 0 16 16\nf 1 1\nflush 1\n")
    ≡ shown (deed_of 1 1 0 (Kind.Class 0) ∷ back_of 1 1 ∷ give_of 1 4096 0 16 0 ∷ freed_of 1 4096 0 0 ∷ give_of 2 4096 1 16 0 ∷ ended_of 1 4096 0 ∷ closed ∷ [])
    (row_of 1 0 (Kind.Class 0) 1 255 0 (marked true true false true) ∷ []) (totalled 1 1 1 2 1)
unfolding seen grains_that each_of free_bits
row_late_free = refl

row_more_classes : seen (codes "pas 3 pages 3 threads 1 heaps 1 age 2\na 1 1 0 513 16\na 1 2 0 1024 1024\na 1 3 0 1025 16\n")
    ≡ shown (deed_of 1 1 0 (Kind.Class 16) ∷ back_of 1 1 ∷ give_of 1 4096 0 640 0 ∷ deed_of 1 2 0 (Kind.Class 19) ∷ back_of 1 2 ∷ give_of 1 8192 0 1024 0 ∷ deed_of 1 3 0 Kind.Bitfit ∷ back_of 1 3 ∷ give_of 1 12288 0 1040 0 ∷ closed ∷ []) (row_of 1 0 (Kind.Class 16) 1 216 0 (marked true true false false) ∷ row_of 2 0 (Kind.Class 19) 1 192 0 (marked true true false false) ∷ row_of 3 0 Kind.Bitfit 1 191 0 (marked true true false false) ∷ []) (totalled 3 3 3 3 0)
unfolding seen grains_that each_of free_bits
row_more_classes = refl

row_named_pages_in_use : seen
    (codes "pas 1 pages 4 threads 1 heaps 1 age 2\na 1 1 0 4096 16\nf 1 1\nflush 1\na 1 2 0 8192 16\na 1 3 0 4096 16\nf 1 2\nflush 1\na 1 4 0 4096 16\na 1 5 0 8192 16\n")
    ≡ shown (deed_of 1 1 0 Kind.Large ∷ back_of 1 1 ∷ give_of 1 4096 0 4096 0 ∷ freed_of 1 4096 0 0 ∷ deed_of 1 2 0 Kind.Large ∷ back_of 1 2 ∷ give_of 1 4096 1 8192 0 ∷ deed_of 1 3 0 Kind.Large ∷ back_of 1 3 ∷ give_of 1 12288 0 4096 0 ∷ freed_of 1 4096 1 0 ∷ give_of 1 4096 2 4096 0 ∷ no_space_of 1 5 ∷ closed ∷ []) (row_of 1 0 Kind.Large 1 0 0 (marked true false true true) ∷ row_of 2 0 Kind.Large 0 256 0 (marked true true false true) ∷ row_of 3 0 Kind.Large 1 0 0 (marked true false true false) ∷ []) (totalled 3 3 2 4 2)
unfolding seen grains_that each_of free_bits
row_named_pages_in_use = refl

row_named_run : seen
    (codes "pas 1 pages 4 threads 2 heaps 1 age 2\na 1 1 0 4096 16\nf 1 1\nphase\na 2 2 0 4096 16\nf 2 2\nflush 2\nphase\nidle 0\nphase\na 2 3 0 4096 16\n")
    ≡ shown (deed_of 1 1 0 Kind.Large ∷ back_of 1 1 ∷ give_of 1 4096 0 4096 0 ∷ phase_of 2 ∷ deed_of 2 2 0 Kind.Large ∷ back_of 2 2 ∷ give_of 2 8192 0 4096 0 ∷ freed_of 2 8192 0 0 ∷ phase_of 3 ∷ freed_of 1 4096 0 0 ∷ stopped_of 1 ∷ stopped_of 2 ∷ phase_of 4 ∷ give_of 2 8192 1 4096 0 ∷ closed ∷ []) (row_of 1 0 Kind.Large 0 256 0 (marked true true false true) ∷ row_of 2 0 Kind.Large 1 0 0 (marked true false true true) ∷ []) (totalled 2 2 1 3 2)
unfolding seen grains_that each_of free_bits
row_named_run = refl

row_partial_views : seen (codes "pas 1 pages 1 threads 1 heaps 2 age 2\nshared 1\na 1 1 1 16 16\na 1 2 1 48 16\na 1 3 1 16 16\n")
    ≡ shown (deed_of 1 1 1 Kind.Shared ∷ back_of 1 1 ∷ give_of 1 4096 0 16 1 ∷ give_of 1 4192 0 48 1 ∷ give_of 1 4112 0 16 1 ∷ closed ∷ [])
    (row_of 1 1 Kind.Shared 3 251 0 (marked true true false false) ∷ []) (totalled 1 1 3 3 0)
unfolding seen grains_that each_of free_bits
row_partial_views = refl

row_raw_frees : seen
    (codes "pas 1 pages 1 threads 1 heaps 1 age 2\na 1 1 0 32 16\nr 1 0x00001000 1\nr 1 0x00001010 0\nr 1 0x00000008 0\nr 1 0x00001008 0\nr 1 0x00002000 0\nr 1 0x00001000 0\n")
    ≡ shown (deed_of 1 1 0 (Kind.Class 1) ∷ back_of 1 1 ∷ give_of 1 4096 0 32 0 ∷ outside_of 1 8 0 ∷ unaligned_of 1 4104 0 ∷ outside_of 1 8192 0 ∷ closed ∷ no_block_of 1 4096 1 ∷ no_block_of 1 4112 0 ∷ freed_of 1 4096 0 0 ∷ []) (row_of 1 0 (Kind.Class 1) 0 256 0 (marked true true false true) ∷ []) (totalled 1 1 0 1 1)
unfolding seen grains_that each_of free_bits
row_raw_frees = refl

row_sixteen_classes : seen (codes "pas 2 pages 2 threads 1 heaps 1 age 2\na 1 1 0 513 16\n")
    ≡ shown (deed_of 1 1 0 Kind.Bitfit ∷ back_of 1 1 ∷ give_of 1 4096 0 528 0 ∷ closed ∷ []) (row_of 1 0 Kind.Bitfit 1 223 0 (marked true true false false) ∷ []) (totalled 1 1 1 1 0)
unfolding seen grains_that each_of free_bits
row_sixteen_classes = refl

row_sized_frees : seen (codes "pas 2 pages 1 threads 1 heaps 1 age 2\na 1 1 0 24 16\nfs 1 1 40 16\nfs 1 1 32 16\nfs 1 1 32 16\n")
    ≡ shown (deed_of 1 1 0 (Kind.Class 1) ∷ back_of 1 1 ∷ give_of 1 4096 0 32 0 ∷ closed ∷ size_differs_of 1 4096 0 48 ∷ freed_of 1 4096 0 0 ∷ ended_of 1 4096 0 ∷ []) (row_of 1 0 (Kind.Class 1) 0 256 0 (marked true true false true) ∷ []) (totalled 1 1 0 1 1)
unfolding seen grains_that each_of free_bits
row_sized_frees = refl

row_two_frees : seen (codes "pas 1 pages 1 threads 2 heaps 1 age 2\na 1 1 0 16 16\nphase\nf 1 1\nflush 1\nf 2 1\nflush 2\n")
    ≡ shown (deed_of 1 1 0 (Kind.Class 0) ∷ back_of 1 1 ∷ give_of 1 4096 0 16 0 ∷ phase_of 2 ∷ freed_of 1 4096 0 0 ∷ ended_of 2 4096 0 ∷ closed ∷ [])
    (row_of 1 0 (Kind.Class 0) 0 256 0 (marked true true false true) ∷ []) (totalled 1 1 0 1 1)
unfolding seen grains_that each_of free_bits
row_two_frees = refl

row_young_then_unbacked : seen
    (codes "pas 1 pages 1 threads 1 heaps 1 age 2\na 1 1 0 16 16\ntick 3\nf 1 1\nstop 1\ntick 4\npass\ntick 5\npass\na 1 2 0 16 16\n")
    ≡ shown (deed_of 1 1 0 (Kind.Class 0) ∷ back_of 1 1 ∷ give_of 1 4096 0 16 0 ∷ tick_of 3 ∷ freed_of 1 4096 0 3 ∷ tick_of 4 ∷ pass_of 4 ∷ young_of 1 3 ∷ tick_of 5 ∷ pass_of 5 ∷ unback_of 0 1 5 ∷ back_of 1 1 ∷ give_of 1 4096 1 16 0 ∷ closed ∷ []) (row_of 1 0 (Kind.Class 0) 1 255 3 (marked true true false false) ∷ []) (totalled 1 1 1 2 1)
unfolding seen grains_that each_of free_bits
row_young_then_unbacked = refl

row_reallocations : seen (codes "pas 4 pages 2 threads 1 heaps 1 age 2\na 1 1 0 24 16\nm 1 2 1 32 16\nm 1 3 2 33 16\nm 1 4 3 64 16\nm 1 5 4 16 16\nf 1 3\n")
    ≡ shown (deed_of 1 1 0 (Kind.Class 1) ∷ back_of 1 1 ∷ give_of 1 4096 0 32 0 ∷ kept_of 1 4096 0 2 ∷ deed_of 1 2 0 (Kind.Class 2) ∷ back_of 1 2 ∷ give_of 1 8192 0 48 0 ∷ no_space_of 1 4 ∷ skipped_of 1 5 ∷ closed ∷ freed_of 1 4096 0 0 ∷ freed_of 1 8192 0 0 ∷ []) (row_of 1 0 (Kind.Class 1) 0 256 0 (marked true true false true) ∷ row_of 2 0 (Kind.Class 2) 0 256 0 (marked true true false true) ∷ []) (totalled 2 2 0 2 2)
unfolding seen grains_that each_of free_bits
row_reallocations = refl

-- ==== The longest one: what a Python program did.
example_python_queue : counted
    (codes "pas 1 pages 64 threads 5 heaps 1 age 2\n# A part of what a Python program did that passes work through a queue between five threads.\na 1 1 0 61 16\nf 1 1\na 1 2 0 104 16\na 1 3 0 56 16\nf 1 3\nf 1 2\na 1 4 0 232 16\na 1 5 0 40 16\na 1 6 0 40 16\na 1 7 0 40 16\na 1 8 0 40 16\na 1 9 0 40 16\na 1 10 0 80 16\na 1 11 0 152 16\na 1 12 0 80 16\na 1 13 0 56 16\na 1 14 0 240 16\na 1 15 0 24 16\na 1 16 0 158 16\na 1 17 0 32 16\nf 1 17\na 1 18 0 56 16\na 1 19 0 64 16\nf 1 18\nf 1 16\na 1 20 0 32 16\nf 1 20\na 1 21 0 56 16\na 1 22 0 232 16\na 1 23 0 56 16\na 1 24 0 32 16\na 1 25 0 56 16\na 1 26 0 176 16\na 1 27 0 72 16\na 1 28 0 72 16\na 1 29 0 185 16\na 1 30 0 61 16\nf 1 30\na 1 31 0 104 16\na 1 32 0 184 16\na 1 33 0 56 16\nf 1 29\nf 1 33\nf 1 31\na 1 34 0 185 16\na 1 35 0 61 16\nf 1 35\na 1 36 0 104 16\na 1 37 0 56 16\nf 1 34\nf 1 37\nf 1 36\na 1 38 0 185 16\na 1 39 0 61 16\nf 1 39\na 1 40 0 104 16\na 1 41 0 56 16\nf 1 38\nf 1 41\nf 1 40\na 1 42 0 232 16\nf 1 32\na 1 43 0 40 16\na 1 44 0 40 16\na 1 45 0 40 16\na 1 46 0 40 16\na 1 47 0 40 16\na 1 48 0 80 16\na 1 49 0 152 16\na 1 50 0 80 16\na 1 51 0 512 16\nf 1 15\na 1 52 0 48 16\na 1 53 0 72 16\na 1 54 0 72 16\nf 1 53\na 1 55 0 160 16\nf 1 54\na 1 56 0 64 16\na 1 57 0 32 16\na 1 58 0 360 16\na 1 59 0 16 16\na 1 60 0 288 16\na 1 61 0 32 16\nf 1 61\na 1 62 0 64 16\na 1 63 0 64 16\nf 1 62\na 1 64 0 56 16\na 1 65 0 32 16\nphase\nf 2 59\na 2 66 0 32 16\na 2 67 0 56 16\na 2 68 0 32 16\na 2 69 0 80 16\na 2 70 0 72 16\na 2 71 0 72 16\nf 2 70\na 2 72 0 152 16\na 2 73 0 64 16\nf 2 73\nf 2 72\na 2 74 0 48 16\nf 2 74\nf 2 71\na 2 75 0 28 16\na 2 76 0 64 16\na 2 77 0 64 16\nf 2 76\na 2 78 0 72 16\nf 2 78\nf 2 77\na 2 79 0 72 16\na 2 80 0 72 16\nf 2 79\nf 2 80\na 2 81 0 64 16\na 2 82 0 64 16\nf 2 81\na 2 83 0 56 16\na 2 84 0 32 16\nf 1 65\nf 1 64\na 1 85 0 72 16\nf 1 85\nf 1 63\na 1 86 0 72 16\na 1 87 0 72 16\nf 1 86\nf 1 87\na 1 88 0 64 16\na 1 89 0 32 16\na 1 90 0 360 16\na 1 91 0 16 16\na 1 92 0 288 16\na 1 93 0 32 16\nf 1 93\na 1 94 0 64 16\na 1 95 0 64 16\nf 1 94\na 1 96 0 56 16\na 1 97 0 32 16\nphase\nf 3 91\na 3 98 0 32 16\na 3 99 0 56 16\na 3 100 0 32 16\na 3 101 0 80 16\na 3 102 0 72 16\na 3 103 0 72 16\nf 3 102\na 3 104 0 152 16\na 3 105 0 64 16\nf 3 105\nf 3 104\na 3 106 0 48 16\nf 3 106\nf 3 103\na 3 107 0 28 16\na 3 108 0 64 16\na 3 109 0 64 16\nf 3 108\na 3 110 0 72 16\nf 3 110\nf 3 109\na 3 111 0 72 16\na 3 112 0 72 16\nf 3 111\nf 3 112\na 3 113 0 64 16\na 3 114 0 64 16\nf 3 113\na 3 115 0 56 16\na 3 116 0 32 16\nf 1 97\nf 1 96\na 1 117 0 72 16\nf 1 117\nf 1 95\na 1 118 0 72 16\na 1 119 0 72 16\nf 1 118\nf 1 119\na 1 120 0 64 16\na 1 121 0 32 16\na 1 122 0 360 16\na 1 123 0 16 16\na 1 124 0 288 16\na 1 125 0 32 16\nf 1 125\na 1 126 0 64 16\na 1 127 0 64 16\nf 1 126\na 1 128 0 56 16\na 1 129 0 32 16\nphase\nf 4 123\na 4 130 0 32 16\na 4 131 0 56 16\na 4 132 0 32 16\na 4 133 0 80 16\na 4 134 0 72 16\na 4 135 0 72 16\nf 4 134\na 4 136 0 152 16\na 4 137 0 64 16\nf 4 137\nf 4 136\na 4 138 0 48 16\nf 4 138\nf 4 135\na 4 139 0 28 16\na 4 140 0 64 16\na 4 141 0 64 16\nf 4 140\na 4 142 0 72 16\nf 4 142\nf 4 141\na 4 143 0 72 16\na 4 144 0 72 16\nf 4 143\nf 4 144\na 4 145 0 64 16\na 4 146 0 64 16\na 4 147 0 64 16\nf 4 146\na 4 148 0 56 16\na 4 149 0 32 16\nf 1 129\nf 1 128\na 1 150 0 72 16\nf 1 150\nf 1 127\na 1 151 0 72 16\na 1 152 0 72 16\nf 1 151\nf 1 152\na 1 153 0 64 16\na 1 154 0 32 16\na 1 155 0 360 16\na 1 156 0 16 16\na 1 157 0 288 16\na 1 158 0 32 16\nf 1 158\na 1 159 0 64 16\na 1 160 0 64 16\nf 1 159\na 1 161 0 56 16\na 1 162 0 32 16\nphase\nf 5 156\na 5 163 0 32 16\na 5 164 0 56 16\na 5 165 0 32 16\na 5 166 0 80 16\na 5 167 0 72 16\na 5 168 0 72 16\nf 5 167\na 5 169 0 152 16\na 5 170 0 64 16\nf 5 170\nf 5 169\na 5 171 0 48 16\nf 5 171\na 5 172 0 512 16\nf 5 168\na 5 173 0 28 16\na 5 174 0 64 16\na 5 175 0 64 16\nf 5 174\na 5 176 0 72 16\nf 5 176\nf 5 175\na 5 177 0 72 16\na 5 178 0 72 16\nf 5 177\nf 5 178\na 5 179 0 64 16\na 5 180 0 64 16\na 5 181 0 64 16\nf 5 180\na 5 182 0 56 16\na 5 183 0 32 16\nf 1 162\nf 1 161\na 1 184 0 72 16\nf 1 184\nf 1 160\nf 1 52\na 1 185 0 32 16\na 1 186 0 32 16\na 1 187 0 32 16\na 1 188 0 32 16\nf 1 187\nf 1 186\nf 1 185\na 1 189 0 48 16\na 1 190 0 48 16\nf 1 188\nf 1 189\na 1 191 0 192 16\na 1 192 0 28 16\nf 1 192\na 1 193 0 28 16\nf 1 193\na 1 194 0 64 16\na 1 195 0 64 16\na 1 196 0 64 16\nf 1 195\na 1 197 0 72 16\nf 1 197\nf 1 196\na 1 198 0 192 16\n")
    ≡ shown (deed_of 1 1 0 (Kind.Class 3) ∷ back_of 1 1 ∷ give_of 1 4096 0 64 0 ∷ deed_of 1 2 0 (Kind.Class 6) ∷ back_of 1 2 ∷ give_of 1 8192 0 112 0 ∷ give_of 1 4160 0 64 0 ∷ deed_of 1 3 0 (Kind.Class 11) ∷ back_of 1 3 ∷ give_of 1 12288 0 256 0 ∷ deed_of 1 4 0 (Kind.Class 2) ∷ back_of 1 4 ∷ give_of 1 16384 0 48 0 ∷ give_of 1 16432 0 48 0 ∷ give_of 1 16480 0 48 0 ∷ give_of 1 16528 0 48 0 ∷ give_of 1 16576 0 48 0 ∷ deed_of 1 5 0 (Kind.Class 4) ∷ back_of 1 5 ∷ give_of 1 20480 0 80 0 ∷ deed_of 1 6 0 (Kind.Class 8) ∷ back_of 1 6 ∷ give_of 1 24576 0 160 0 ∷ give_of 1 20560 0 80 0 ∷ give_of 1 4224 0 64 0 ∷ give_of 1 12544 0 256 0 ∷ deed_of 1 7 0 (Kind.Class 1) ∷ back_of 1 7 ∷ give_of 1 28672 0 32 0 ∷ give_of 1 24736 0 160 0 ∷ give_of 1 28704 0 32 0 ∷ give_of 1 4288 0 64 0 ∷ give_of 1 4352 0 64 0 ∷ give_of 1 28736 0 32 0 ∷ give_of 1 4416 0 64 0 ∷ give_of 1 12800 0 256 0 ∷ give_of 1 4480 0 64 0 ∷ give_of 1 28768 0 32 0 ∷ give_of 1 4544 0 64 0 ∷ deed_of 1 8 0 (Kind.Class 9) ∷ back_of 1 8 ∷ give_of 1 32768 0 192 0 ∷ give_of 1 20640 0 80 0 ∷ give_of 1 20720 0 80 0 ∷ give_of 1 32960 0 192 0 ∷ give_of 1 4608 0 64 0 ∷ give_of 1 8304 0 112 0 ∷ give_of 1 33152 0 192 0 ∷ give_of 1 4672 0 64 0 ∷ give_of 1 33344 0 192 0 ∷ give_of 1 4736 0 64 0 ∷ give_of 1 8416 0 112 0 ∷ give_of 1 4800 0 64 0 ∷ give_of 1 33536 0 192 0 ∷ give_of 1 4864 0 64 0 ∷ give_of 1 8528 0 112 0 ∷ give_of 1 4928 0 64 0 ∷ give_of 1 13056 0 256 0 ∷ give_of 1 16624 0 48 0 ∷ give_of 1 16672 0 48 0 ∷ give_of 1 16720 0 48 0 ∷ give_of 1 16768 0 48 0 ∷ give_of 1 16816 0 48 0 ∷ give_of 1 20800 0 80 0 ∷ give_of 1 24896 0 160 0 ∷ give_of 1 20880 0 80 0 ∷ deed_of 1 9 0 (Kind.Class 15) ∷ back_of 1 9 ∷ give_of 1 36864 0 512 0 ∷ give_of 1 16864 0 48 0 ∷ give_of 1 20960 0 80 0 ∷ give_of 1 21040 0 80 0 ∷ give_of 1 25056 0 160 0 ∷ give_of 1 4992 0 64 0 ∷ give_of 1 28800 0 32 0 ∷ deed_of 1 10 0 (Kind.Class 13) ∷ back_of 1 10 ∷ give_of 1 40960 0 384 0 ∷ deed_of 1 11 0 (Kind.Class 0) ∷ back_of 1 11 ∷ give_of 1 45056 0 16 0 ∷ deed_of 1 12 0 (Kind.Class 12) ∷ back_of 1 12 ∷ give_of 1 49152 0 320 0 ∷ give_of 1 28832 0 32 0 ∷ give_of 1 5056 0 64 0 ∷ give_of 1 5120 0 64 0 ∷ give_of 1 5184 0 64 0 ∷ give_of 1 28864 0 32 0 ∷ phase_of 2 ∷ deed_of 2 13 0 (Kind.Class 1) ∷ back_of 2 13 ∷ give_of 2 53248 0 32 0 ∷ deed_of 2 14 0 (Kind.Class 3) ∷ back_of 2 14 ∷ give_of 2 57344 0 64 0 ∷ give_of 2 53280 0 32 0 ∷ deed_of 2 15 0 (Kind.Class 4) ∷ back_of 2 15 ∷ give_of 2 61440 0 80 0 ∷ give_of 2 61520 0 80 0 ∷ give_of 2 61600 0 80 0 ∷ deed_of 2 16 0 (Kind.Class 8) ∷ back_of 2 16 ∷ give_of 2 65536 0 160 0 ∷ give_of 2 57408 0 64 0 ∷ deed_of 2 17 0 (Kind.Class 2) ∷ back_of 2 17 ∷ give_of 2 69632 0 48 0 ∷ give_of 2 53312 0 32 0 ∷ give_of 2 57472 0 64 0 ∷ give_of 2 57536 0 64 0 ∷ give_of 2 61680 0 80 0 ∷ give_of 2 61760 0 80 0 ∷ give_of 2 61840 0 80 0 ∷ give_of 2 57600 0 64 0 ∷ give_of 2 57664 0 64 0 ∷ give_of 2 57728 0 64 0 ∷ give_of 2 53344 0 32 0 ∷ give_of 1 21120 0 80 0 ∷ give_of 1 21200 0 80 0 ∷ give_of 1 21280 0 80 0 ∷ give_of 1 5248 0 64 0 ∷ give_of 1 28896 0 32 0 ∷ give_of 1 41344 0 384 0 ∷ give_of 1 45072 0 16 0 ∷ give_of 1 49472 0 320 0 ∷ give_of 1 28928 0 32 0 ∷ give_of 1 5312 0 64 0 ∷ give_of 1 5376 0 64 0 ∷ give_of 1 5440 0 64 0 ∷ give_of 1 28960 0 32 0 ∷ phase_of 3 ∷ deed_of 3 18 0 (Kind.Class 1) ∷ back_of 3 18 ∷ give_of 3 73728 0 32 0 ∷ deed_of 3 19 0 (Kind.Class 3) ∷ back_of 3 19 ∷ give_of 3 77824 0 64 0 ∷ give_of 3 73760 0 32 0 ∷ deed_of 3 20 0 (Kind.Class 4) ∷ back_of 3 20 ∷ give_of 3 81920 0 80 0 ∷ give_of 3 82000 0 80 0 ∷ give_of 3 82080 0 80 0 ∷ deed_of 3 21 0 (Kind.Class 8) ∷ back_of 3 21 ∷ give_of 3 86016 0 160 0 ∷ give_of 3 77888 0 64 0 ∷ deed_of 3 22 0 (Kind.Class 2) ∷ back_of 3 22 ∷ give_of 3 90112 0 48 0 ∷ give_of 3 73792 0 32 0 ∷ give_of 3 77952 0 64 0 ∷ give_of 3 78016 0 64 0 ∷ give_of 3 82160 0 80 0 ∷ give_of 3 82240 0 80 0 ∷ give_of 3 82320 0 80 0 ∷ give_of 3 78080 0 64 0 ∷ give_of 3 78144 0 64 0 ∷ give_of 3 78208 0 64 0 ∷ give_of 3 73824 0 32 0 ∷ give_of 1 21360 0 80 0 ∷ give_of 1 21440 0 80 0 ∷ give_of 1 21520 0 80 0 ∷ give_of 1 5504 0 64 0 ∷ give_of 1 28992 0 32 0 ∷ give_of 1 41728 0 384 0 ∷ give_of 1 45088 0 16 0 ∷ give_of 1 49792 0 320 0 ∷ give_of 1 29024 0 32 0 ∷ give_of 1 5568 0 64 0 ∷ give_of 1 5632 0 64 0 ∷ give_of 1 5696 0 64 0 ∷ give_of 1 29056 0 32 0 ∷ phase_of 4 ∷ deed_of 4 23 0 (Kind.Class 1) ∷ back_of 4 23 ∷ give_of 4 94208 0 32 0 ∷ deed_of 4 24 0 (Kind.Class 3) ∷ back_of 4 24 ∷ give_of 4 98304 0 64 0 ∷ give_of 4 94240 0 32 0 ∷ deed_of 4 25 0 (Kind.Class 4) ∷ back_of 4 25 ∷ give_of 4 102400 0 80 0 ∷ give_of 4 102480 0 80 0 ∷ give_of 4 102560 0 80 0 ∷ deed_of 4 26 0 (Kind.Class 8) ∷ back_of 4 26 ∷ give_of 4 106496 0 160 0 ∷ give_of 4 98368 0 64 0 ∷ deed_of 4 27 0 (Kind.Class 2) ∷ back_of 4 27 ∷ give_of 4 110592 0 48 0 ∷ give_of 4 94272 0 32 0 ∷ give_of 4 98432 0 64 0 ∷ give_of 4 98496 0 64 0 ∷ give_of 4 102640 0 80 0 ∷ give_of 4 102720 0 80 0 ∷ give_of 4 102800 0 80 0 ∷ give_of 4 98560 0 64 0 ∷ give_of 4 98624 0 64 0 ∷ give_of 4 98688 0 64 0 ∷ give_of 4 98752 0 64 0 ∷ give_of 4 94304 0 32 0 ∷ give_of 1 21600 0 80 0 ∷ give_of 1 21680 0 80 0 ∷ give_of 1 21760 0 80 0 ∷ give_of 1 5760 0 64 0 ∷ give_of 1 29088 0 32 0 ∷ give_of 1 42112 0 384 0 ∷ give_of 1 45104 0 16 0 ∷ give_of 1 50112 0 320 0 ∷ give_of 1 29120 0 32 0 ∷ give_of 1 5824 0 64 0 ∷ give_of 1 5888 0 64 0 ∷ give_of 1 5952 0 64 0 ∷ give_of 1 29152 0 32 0 ∷ phase_of 5 ∷ deed_of 5 28 0 (Kind.Class 1) ∷ back_of 5 28 ∷ give_of 5 114688 0 32 0 ∷ deed_of 5 29 0 (Kind.Class 3) ∷ back_of 5 29 ∷ give_of 5 118784 0 64 0 ∷ give_of 5 114720 0 32 0 ∷ deed_of 5 30 0 (Kind.Class 4) ∷ back_of 5 30 ∷ give_of 5 122880 0 80 0 ∷ give_of 5 122960 0 80 0 ∷ give_of 5 123040 0 80 0 ∷ deed_of 5 31 0 (Kind.Class 8) ∷ back_of 5 31 ∷ give_of 5 126976 0 160 0 ∷ give_of 5 118848 0 64 0 ∷ deed_of 5 32 0 (Kind.Class 2) ∷ back_of 5 32 ∷ give_of 5 131072 0 48 0 ∷ deed_of 5 33 0 (Kind.Class 15) ∷ back_of 5 33 ∷ give_of 5 135168 0 512 0 ∷ give_of 5 114752 0 32 0 ∷ give_of 5 118912 0 64 0 ∷ give_of 5 118976 0 64 0 ∷ give_of 5 123120 0 80 0 ∷ give_of 5 123200 0 80 0 ∷ give_of 5 123280 0 80 0 ∷ give_of 5 119040 0 64 0 ∷ give_of 5 119104 0 64 0 ∷ give_of 5 119168 0 64 0 ∷ give_of 5 119232 0 64 0 ∷ give_of 5 114784 0 32 0 ∷ give_of 1 21840 0 80 0 ∷ give_of 1 29184 0 32 0 ∷ give_of 1 29216 0 32 0 ∷ give_of 1 29248 0 32 0 ∷ give_of 1 29280 0 32 0 ∷ give_of 1 16912 0 48 0 ∷ give_of 1 16960 0 48 0 ∷ give_of 1 33728 0 192 0 ∷ give_of 1 29312 0 32 0 ∷ give_of 1 29344 0 32 0 ∷ give_of 1 6016 0 64 0 ∷ give_of 1 6080 0 64 0 ∷ give_of 1 6144 0 64 0 ∷ give_of 1 21920 0 80 0 ∷ give_of 1 33920 0 192 0 ∷ closed ∷ freed_of 1 4096 0 0 ∷ freed_of 1 4160 0 0 ∷ freed_of 1 8192 0 0 ∷ freed_of 1 28704 0 0 ∷ freed_of 1 4288 0 0 ∷ freed_of 1 24736 0 0 ∷ freed_of 1 28736 0 0 ∷ freed_of 1 4608 0 0 ∷ freed_of 1 32960 0 0 ∷ freed_of 1 4672 0 0 ∷ freed_of 1 8304 0 0 ∷ freed_of 1 4736 0 0 ∷ freed_of 1 33344 0 0 ∷ freed_of 1 4800 0 0 ∷ freed_of 1 8416 0 0 ∷ freed_of 1 4864 0 0 ∷ freed_of 1 33536 0 0 ∷ freed_of 1 4928 0 0 ∷ freed_of 1 8528 0 0 ∷ freed_of 1 33152 0 0 ∷ freed_of 1 28672 0 0 ∷ freed_of 1 20960 0 0 ∷ freed_of 1 21040 0 0 ∷ freed_of 1 28832 0 0 ∷ freed_of 1 5056 0 0 ∷ freed_of 1 28864 0 0 ∷ freed_of 1 5184 0 0 ∷ freed_of 1 21120 0 0 ∷ freed_of 1 5120 0 0 ∷ freed_of 1 21200 0 0 ∷ freed_of 1 21280 0 0 ∷ freed_of 1 28928 0 0 ∷ freed_of 1 5312 0 0 ∷ freed_of 1 28960 0 0 ∷ freed_of 1 5440 0 0 ∷ freed_of 1 21360 0 0 ∷ freed_of 1 5376 0 0 ∷ freed_of 1 21440 0 0 ∷ freed_of 1 21520 0 0 ∷ freed_of 1 29024 0 0 ∷ freed_of 1 5568 0 0 ∷ freed_of 1 29056 0 0 ∷ freed_of 1 5696 0 0 ∷ freed_of 1 21600 0 0 ∷ freed_of 1 5632 0 0 ∷ freed_of 1 21680 0 0 ∷ freed_of 1 21760 0 0 ∷ freed_of 1 29120 0 0 ∷ freed_of 1 5824 0 0 ∷ freed_of 1 29152 0 0 ∷ freed_of 1 5952 0 0 ∷ freed_of 1 21840 0 0 ∷ freed_of 1 5888 0 0 ∷ freed_of 1 16864 0 0 ∷ freed_of 1 29248 0 0 ∷ freed_of 1 29216 0 0 ∷ freed_of 1 29184 0 0 ∷ freed_of 1 29280 0 0 ∷ freed_of 1 16912 0 0 ∷ freed_of 1 29312 0 0 ∷ freed_of 1 29344 0 0 ∷ freed_of 1 6080 0 0 ∷ freed_of 1 21920 0 0 ∷ freed_of 1 6144 0 0 ∷ freed_of 2 45056 0 0 ∷ freed_of 2 61520 0 0 ∷ freed_of 2 57408 0 0 ∷ freed_of 2 65536 0 0 ∷ freed_of 2 69632 0 0 ∷ freed_of 2 61600 0 0 ∷ freed_of 2 57472 0 0 ∷ freed_of 2 61680 0 0 ∷ freed_of 2 57536 0 0 ∷ freed_of 2 61760 0 0 ∷ freed_of 2 61840 0 0 ∷ freed_of 2 57600 0 0 ∷ freed_of 3 45072 0 0 ∷ freed_of 3 82000 0 0 ∷ freed_of 3 77888 0 0 ∷ freed_of 3 86016 0 0 ∷ freed_of 3 90112 0 0 ∷ freed_of 3 82080 0 0 ∷ freed_of 3 77952 0 0 ∷ freed_of 3 82160 0 0 ∷ freed_of 3 78016 0 0 ∷ freed_of 3 82240 0 0 ∷ freed_of 3 82320 0 0 ∷ freed_of 3 78080 0 0 ∷ freed_of 4 45088 0 0 ∷ freed_of 4 102480 0 0 ∷ freed_of 4 98368 0 0 ∷ freed_of 4 106496 0 0 ∷ freed_of 4 110592 0 0 ∷ freed_of 4 102560 0 0 ∷ freed_of 4 98432 0 0 ∷ freed_of 4 102640 0 0 ∷ freed_of 4 98496 0 0 ∷ freed_of 4 102720 0 0 ∷ freed_of 4 102800 0 0 ∷ freed_of 4 98624 0 0 ∷ freed_of 5 45104 0 0 ∷ freed_of 5 122960 0 0 ∷ freed_of 5 118848 0 0 ∷ freed_of 5 126976 0 0 ∷ freed_of 5 131072 0 0 ∷ freed_of 5 123040 0 0 ∷ freed_of 5 118912 0 0 ∷ freed_of 5 123120 0 0 ∷ freed_of 5 118976 0 0 ∷ freed_of 5 123200 0 0 ∷ freed_of 5 123280 0 0 ∷ freed_of 5 119104 0 0 ∷ []) (row_of 1 0 (Kind.Class 3) 10 216 0 (marked true true false false) ∷ row_of 2 0 (Kind.Class 6) 0 256 0 (marked true true false true) ∷ row_of 3 0 (Kind.Class 11) 4 192 0 (marked true true false false) ∷ row_of 4 0 (Kind.Class 2) 11 223 0 (marked true true false false) ∷ row_of 5 0 (Kind.Class 4) 6 226 0 (marked true true false false) ∷ row_of 6 0 (Kind.Class 8) 3 226 0 (marked true true false false) ∷ row_of 7 0 (Kind.Class 1) 5 246 0 (marked true true false false) ∷ row_of 8 0 (Kind.Class 9) 3 220 0 (marked true true false false) ∷ row_of 9 0 (Kind.Class 15) 1 224 0 (marked true true false false) ∷ row_of 10 0 (Kind.Class 13) 4 160 0 (marked true true false false) ∷ row_of 11 0 (Kind.Class 0) 0 256 0 (marked true true false true) ∷ row_of 12 0 (Kind.Class 12) 4 176 0 (marked true true false false) ∷ row_of 13 0 (Kind.Class 1) 4 248 0 (marked true true false false) ∷ row_of 14 0 (Kind.Class 3) 3 244 0 (marked true true false false) ∷ row_of 15 0 (Kind.Class 4) 1 251 0 (marked true true false false) ∷ row_of 16 0 (Kind.Class 8) 0 256 0 (marked true true false true) ∷ row_of 17 0 (Kind.Class 2) 0 256 0 (marked true true false true) ∷ row_of 18 0 (Kind.Class 1) 4 248 0 (marked true true false false) ∷ row_of 19 0 (Kind.Class 3) 3 244 0 (marked true true false false) ∷ row_of 20 0 (Kind.Class 4) 1 251 0 (marked true true false false) ∷ row_of 21 0 (Kind.Class 8) 0 256 0 (marked true true false true) ∷ row_of 22 0 (Kind.Class 2) 0 256 0 (marked true true false true) ∷ row_of 23 0 (Kind.Class 1) 4 248 0 (marked true true false false) ∷ row_of 24 0 (Kind.Class 3) 4 240 0 (marked true true false false) ∷ row_of 25 0 (Kind.Class 4) 1 251 0 (marked true true false false) ∷ row_of 26 0 (Kind.Class 8) 0 256 0 (marked true true false true) ∷ row_of 27 0 (Kind.Class 2) 0 256 0 (marked true true false true) ∷ row_of 28 0 (Kind.Class 1) 4 248 0 (marked true true false false) ∷ row_of 29 0 (Kind.Class 3) 4 240 0 (marked true true false false) ∷ row_of 30 0 (Kind.Class 4) 1 251 0 (marked true true false false) ∷ row_of 31 0 (Kind.Class 8) 0 256 0 (marked true true false true) ∷ row_of 32 0 (Kind.Class 2) 0 256 0 (marked true true false true) ∷ row_of 33 0 (Kind.Class 15) 1 224 0 (marked true true false false) ∷ []) (totalled 33 33 86 198 112)
unfolding counted each_of free_bits
example_python_queue = refl

-- The replays of worked traces with guards, by computing.

row_guard_two : seen
    (codes "pas 4 pages 8 threads 1 heaps 1 age 2\nguard 2\na 1 1 0 4096 16\na 1 2 0 4096 16\nf 1 2\nflush 1\na 1 3 0 4096 16\na 1 4 0 8192 16\n")
    ≡ shown (deed_of 1 1 0 Kind.Large ∷ back_of 1 1 ∷ give_of 1 4096 0 4096 0 ∷ deed_of 2 2 0 Kind.Large ∷ deed_of 2 3 0 Kind.Large ∷ deed_of 2 4 0 Kind.Large ∷ back_of 2 3 ∷ give_of 2 12288 0 4096 0 ∷ guarded_of 2 2 4 2 ∷ freed_of 1 12288 0 0 ∷ give_of 1 12288 1 4096 0 ∷ lowered_of 2 2 4 ∷ deed_of 2 5 0 Kind.Large ∷ deed_of 2 6 0 Kind.Large ∷ deed_of 2 7 0 Kind.Large ∷ back_of 2 5 ∷ back_of 2 6 ∷ give_of 2 20480 0 8192 0 ∷ guarded_of 2 4 7 4 ∷ closed ∷ lowered_of 2 4 7 ∷ []) (row_of 1 0 Kind.Large 1 0 0 (marked true false true false) ∷ row_of 2 0 Kind.Large 0 256 0 (marked false true false false) ∷ row_of 3 0 Kind.Large 1 0 0 (marked true false true true) ∷ row_of 4 0 Kind.Large 0 256 0 (marked false true false false) ∷ row_of 5 0 Kind.Large 1 0 0 (marked true false true false) ∷ row_of 6 0 Kind.Large 0 0 0 (marked true false true false) ∷ row_of 7 0 Kind.Large 0 256 0 (marked false true false false) ∷ []) (totalled 7 4 3 4 1)
unfolding seen grains_that each_of free_bits
row_guard_two = refl

row_guard_no_room : seen (codes "pas 4 pages 2 threads 1 heaps 1 age 2\nguard 1\na 1 1 0 4096 16\n")
    ≡ shown (deed_of 1 1 0 Kind.Large ∷ back_of 1 1 ∷ give_of 1 4096 0 4096 0 ∷ closed ∷ []) (row_of 1 0 Kind.Large 1 0 0 (marked true false true false) ∷ []) (totalled 1 1 1 1 0)
unfolding seen grains_that each_of free_bits
row_guard_no_room = refl

row_guard_backed_last_page : seen
    (codes "pas 4 pages 6 threads 1 heaps 1 age 1\nguard 3\na 1 1 0 8192 16\na 1 2 0 4096 16\nf 1 2\nflush 1\nf 1 1\nflush 1\ntick 1\na 1 3 0 4096 16\na 1 4 0 4096 16\n")
    ≡ shown (deed_of 1 1 0 Kind.Large ∷ deed_of 1 2 0 Kind.Large ∷ back_of 1 1 ∷ back_of 1 2 ∷ give_of 1 4096 0 8192 0 ∷ deed_of 1 3 0 Kind.Large ∷ back_of 1 3 ∷ give_of 1 12288 0 4096 0 ∷ freed_of 1 12288 0 0 ∷ freed_of 1 4096 0 0 ∷ tick_of 1 ∷ deed_of 2 4 0 Kind.Large ∷ deed_of 2 5 0 Kind.Large ∷ deed_of 2 6 0 Kind.Large ∷ back_of 2 5 ∷ give_of 2 20480 0 4096 0 ∷ guarded_of 2 4 6 3 ∷ give_of 1 4096 1 4096 0 ∷ closed ∷ lowered_of 2 4 6 ∷ []) (row_of 1 0 Kind.Large 1 0 0 (marked true false true true) ∷ row_of 2 0 Kind.Large 0 256 0 (marked true true false true) ∷ row_of 3 0 Kind.Large 0 256 0 (marked true true false true) ∷ row_of 4 0 Kind.Large 0 256 0 (marked false true false false) ∷ row_of 5 0 Kind.Large 1 0 0 (marked true false true false) ∷ row_of 6 0 Kind.Large 0 256 0 (marked false true false false) ∷ []) (totalled 6 4 2 4 2)
unfolding seen grains_that each_of free_bits
row_guard_backed_last_page = refl

row_guard_backed_page : seen (codes "pas 4 pages 8 threads 1 heaps 1 age 2\nguard 2\na 1 1 0 4096 16\nf 1 1\nflush 1\na 1 2 0 4096 16\na 1 3 0 8192 16\n")
    ≡ shown (deed_of 1 1 0 Kind.Large ∷ back_of 1 1 ∷ give_of 1 4096 0 4096 0 ∷ freed_of 1 4096 0 0 ∷ deed_of 2 2 0 Kind.Large ∷ deed_of 2 3 0 Kind.Large ∷ deed_of 2 4 0 Kind.Large ∷ back_of 2 3 ∷ give_of 2 12288 0 4096 0 ∷ guarded_of 2 2 4 2 ∷ deed_of 1 5 0 Kind.Large ∷ deed_of 1 6 0 Kind.Large ∷ back_of 1 5 ∷ back_of 1 6 ∷ give_of 1 20480 0 8192 0 ∷ closed ∷ lowered_of 2 2 4 ∷ []) (row_of 1 0 Kind.Large 0 256 0 (marked true true false true) ∷ row_of 2 0 Kind.Large 0 256 0 (marked false true false false) ∷ row_of 3 0 Kind.Large 1 0 0 (marked true false true false) ∷ row_of 4 0 Kind.Large 0 256 0 (marked false true false false) ∷ row_of 5 0 Kind.Large 1 0 0 (marked true false true false) ∷ row_of 6 0 Kind.Large 0 0 0 (marked true false true false) ∷ []) (totalled 6 4 2 3 1)
unfolding seen grains_that each_of free_bits
row_guard_backed_page = refl

row_guard_broken_runs : seen (codes "pas 4 pages 3 threads 1 heaps 1 age 2\nguard 2\na 1 1 0 4096 16\nf 1 1\nflush 1\na 1 2 0 4096 16\n")
    ≡ shown (deed_of 1 1 0 Kind.Large ∷ back_of 1 1 ∷ give_of 1 4096 0 4096 0 ∷ freed_of 1 4096 0 0 ∷ deed_of 2 2 0 Kind.Large ∷ deed_of 2 3 0 Kind.Large ∷ give_of 1 4096 1 4096 0 ∷ closed ∷ []) (row_of 1 0 Kind.Large 1 0 0 (marked true false true true) ∷ row_of 2 0 Kind.Large 0 256 0 (marked false true false false) ∷ row_of 3 0 Kind.Large 0 256 0 (marked false true false false) ∷ []) (totalled 3 1 1 2 1)
unfolding seen grains_that each_of free_bits
row_guard_broken_runs = refl

row_guard_two_keepers : seen
    (codes "pas 4 pages 9 threads 2 heaps 2 age 1\nguard 1\na 1 1 0 4096 16\na 2 2 1 4096 16\na 1 3 0 2100 16\nf 1 1\nphase\nf 2 3\nflush 2\na 1 4 0 8192 16\nstop 1\na 2 5 1 4096 16\ntick 2\npass\na 1 6 0 4096 16\nm 1 7 6 9000 16\n")
    ≡ shown (deed_of 3 1 0 Kind.Large ∷ deed_of 3 2 0 Kind.Large ∷ deed_of 3 3 0 Kind.Large ∷ back_of 3 2 ∷ give_of 3 8192 0 4096 0 ∷ guarded_of 3 1 3 1 ∷ deed_of 4 4 1 Kind.Large ∷ deed_of 4 5 1 Kind.Large ∷ deed_of 4 6 1 Kind.Large ∷ back_of 4 5 ∷ give_of 4 20480 0 4096 1 ∷ guarded_of 4 4 6 2 ∷ deed_of 3 7 0 Kind.Large ∷ deed_of 3 8 0 Kind.Large ∷ deed_of 3 9 0 Kind.Large ∷ back_of 3 8 ∷ give_of 3 32768 0 4096 0 ∷ guarded_of 3 7 9 3 ∷ phase_of 2 ∷ freed_of 2 32768 0 0 ∷ lowered_of 3 7 9 ∷ back_of 1 7 ∷ give_of 1 28672 0 8192 0 ∷ freed_of 1 8192 0 0 ∷ no_space_of 2 5 ∷ tick_of 2 ∷ pass_of 2 ∷ unback_of 0 2 2 ∷ in_use_of 8 0 0 ∷ lowered_of 3 1 3 ∷ back_of 3 2 ∷ give_of 3 8192 1 4096 0 ∷ guarded_of 3 1 3 6 ∷ no_space_of 1 7 ∷ closed ∷ lowered_of 3 1 3 ∷ lowered_of 4 4 6 ∷ []) (row_of 1 0 Kind.Large 0 256 0 (marked false true false false) ∷ row_of 2 0 Kind.Large 1 0 0 (marked true false true false) ∷ row_of 3 0 Kind.Large 0 256 0 (marked false true false false) ∷ row_of 4 1 Kind.Large 0 256 0 (marked false true false false) ∷ row_of 5 1 Kind.Large 1 0 0 (marked true false true false) ∷ row_of 6 1 Kind.Large 0 256 0 (marked false true false false) ∷ row_of 7 0 Kind.Large 1 0 0 (marked true false true false) ∷ row_of 8 0 Kind.Large 0 0 0 (marked true false true false) ∷ row_of 9 0 Kind.Large 0 256 0 (marked false true false false) ∷ []) (totalled 9 4 3 5 2)
unfolding seen grains_that each_of free_bits
row_guard_two_keepers = refl

-- ==== The replays of worked traces, by computing.
example_bit_fit : seen
    (codes "pas 1 pages 8 threads 1 heaps 1 age 2\n# Above 512 bytes a block takes just the grains of 16 bytes that it needs, at the lowest place of the heap's bit-fit pages that is aligned.\na 1 1 0 600 16\na 1 2 0 1000 16\na 1 3 0 513 256\nf 1 1\nflush 1\n# The first block's 38 grains are free again: 560 bytes fit there, 640 don't.\na 1 4 0 640 16\na 1 5 0 560 16\n")
    ≡ shown (deed_of 1 1 0 Kind.Bitfit ∷ back_of 1 1 ∷ give_of 1 4096 0 608 0 ∷ give_of 1 4704 0 1008 0 ∷ give_of 1 5888 0 528 0 ∷ freed_of 1 4096 0 0 ∷ give_of 1 6416 0 640 0 ∷ give_of 1 4096 1 560 0 ∷ closed ∷ []) (row_of 1 0 Kind.Bitfit 4 85 0 (marked true true false false) ∷ []) (totalled 1 1 4 5 1)
unfolding seen grains_that each_of free_bits
example_bit_fit = refl

example_first : seen
    (codes "pas 1 pages 4 threads 1 heaps 1 age 2\n# The free is logged, and takes effect when the thread's cache is stopped at the close.\na 1 1 0 24 16\nf 1 1\n")
    ≡ shown (deed_of 1 1 0 (Kind.Class 1) ∷ back_of 1 1 ∷ give_of 1 4096 0 32 0 ∷ closed ∷ freed_of 1 4096 0 0 ∷ []) (row_of 1 0 (Kind.Class 1) 0 256 0 (marked true true false true) ∷ []) (totalled 1 1 0 1 1)
unfolding seen grains_that each_of free_bits
example_first = refl

example_idle_pages : seen
    (codes "pas 1 pages 4 threads 3 heaps 1 age 2\n# Thread 1 and thread 2 each fill a page and free it.\na 1 1 0 512 16\na 2 2 0 256 16\nf 1 1\nf 2 2\nflush 1\nflush 2\n# Their threads still cache the pages' other slots, so that no page is hinted yet.\npass\nphase\n# Nobody but the scavenger is at work: threads that were idle for three epochs are stopped.\ntick 1\nidle 3\ntick 3\nidle 3\n# The pages' last ends are two epochs old now, and the pages go back.\npass\nphase\n# Thread 1 is served by its page again, which is backed anew.\na 1 3 0 512 16\n")
    ≡ shown (deed_of 1 1 0 (Kind.Class 15) ∷ back_of 1 1 ∷ give_of 1 4096 0 512 0 ∷ deed_of 2 2 0 (Kind.Class 11) ∷ back_of 2 2 ∷ give_of 2 8192 0 256 0 ∷ freed_of 1 4096 0 0 ∷ freed_of 2 8192 0 0 ∷ pass_of 0 ∷ phase_of 2 ∷ tick_of 1 ∷ tick_of 3 ∷ stopped_of 1 ∷ stopped_of 2 ∷ stopped_of 3 ∷ pass_of 3 ∷ unback_of 0 1 3 ∷ unback_of 0 2 3 ∷ phase_of 3 ∷ back_of 1 1 ∷ give_of 1 4096 1 512 0 ∷ closed ∷ []) (row_of 1 0 (Kind.Class 15) 1 224 0 (marked true true false false) ∷ row_of 2 0 (Kind.Class 11) 0 256 0 (marked false true false false) ∷ []) (totalled 2 1 1 3 2)
unfolding seen grains_that each_of free_bits
example_idle_pages = refl

example_large : seen
    (codes "pas 1 pages 4 threads 1 heaps 2 age 2\n# A block of two whole pages, and one of a single page that is given again where the first ended.\na 1 1 0 8192 16\na 1 2 0 2049 16\nf 1 1\nflush 1\na 1 3 0 4096 4096\n# Heap 1 takes the last page without a deed; three pages in a row aren't free.\na 1 4 1 4000 16\na 1 5 1 12288 16\n")
    ≡ shown (deed_of 1 1 0 Kind.Large ∷ deed_of 1 2 0 Kind.Large ∷ back_of 1 1 ∷ back_of 1 2 ∷ give_of 1 4096 0 8192 0 ∷ deed_of 1 3 0 Kind.Large ∷ back_of 1 3 ∷ give_of 1 12288 0 4096 0 ∷ freed_of 1 4096 0 0 ∷ give_of 1 4096 1 4096 0 ∷ deed_of 1 4 1 Kind.Large ∷ back_of 1 4 ∷ give_of 1 16384 0 4096 1 ∷ no_space_of 1 5 ∷ closed ∷ []) (row_of 1 0 Kind.Large 1 0 0 (marked true false true true) ∷ row_of 2 0 Kind.Large 0 256 0 (marked true true false true) ∷ row_of 3 0 Kind.Large 1 0 0 (marked true false true false) ∷ row_of 4 1 Kind.Large 1 0 0 (marked true false true false) ∷ []) (totalled 4 4 3 4 1)
unfolding seen grains_that each_of free_bits
example_large = refl

example_passes : seen
    (codes "pas 1 pages 4 threads 2 heaps 1 age 2\n# A block of a page that is split bit by bit: once freed, its page is empty, but for no two epochs yet.\na 1 1 0 600 16\nf 1 1\nflush 1\npass\n# The page is hinted still, and in use.\na 1 2 0 600 16\npass\n# Its last block ends in epoch 4, so that it goes back in epoch 6 and no sooner.\nf 1 2\ntick 4\nflush 1\ntick 5\npass\ntick 6\npass\n# Thread 1 takes all eight slots of a page; thread 2 frees them, while thread 1's cache still has the page's right.\na 1 3 0 512 16\na 1 4 0 512 16\na 1 5 0 512 16\na 1 6 0 512 16\na 1 7 0 512 16\na 1 8 0 512 16\na 1 9 0 512 16\na 1 10 0 512 16\nphase\nf 2 3\nf 2 4\nf 2 5\nf 2 6\nf 2 7\nf 2 8\nf 2 9\nf 2 10\nflush 2\npass\n")
    ≡ shown (deed_of 1 1 0 Kind.Bitfit ∷ back_of 1 1 ∷ give_of 1 4096 0 608 0 ∷ freed_of 1 4096 0 0 ∷ pass_of 0 ∷ young_of 1 0 ∷ give_of 1 4096 1 608 0 ∷ pass_of 0 ∷ in_use_of 1 0 18446743798831644672 ∷ tick_of 4 ∷ freed_of 1 4096 1 4 ∷ tick_of 5 ∷ pass_of 5 ∷ young_of 1 4 ∷ tick_of 6 ∷ pass_of 6 ∷ unback_of 0 1 6 ∷ deed_of 1 2 0 (Kind.Class 15) ∷ back_of 1 2 ∷ give_of 1 8192 0 512 0 ∷ give_of 1 8704 0 512 0 ∷ give_of 1 9216 0 512 0 ∷ give_of 1 9728 0 512 0 ∷ give_of 1 10240 0 512 0 ∷ give_of 1 10752 0 512 0 ∷ give_of 1 11264 0 512 0 ∷ give_of 1 11776 0 512 0 ∷ phase_of 2 ∷ freed_of 2 8192 0 6 ∷ freed_of 2 8704 0 6 ∷ freed_of 2 9216 0 6 ∷ freed_of 2 9728 0 6 ∷ freed_of 2 10240 0 6 ∷ freed_of 2 10752 0 6 ∷ freed_of 2 11264 0 6 ∷ freed_of 2 11776 0 6 ∷ pass_of 6 ∷ not_offered_of 2 ∷ closed ∷ []) (row_of 1 0 Kind.Bitfit 0 256 4 (marked false true false false) ∷ row_of 2 0 (Kind.Class 15) 0 256 6 (marked true true false true) ∷ []) (totalled 2 1 0 10 10)
unfolding seen grains_that each_of free_bits
example_passes = refl

example_refusals : seen
    (codes "pas 1 pages 2 threads 2 heaps 3 age 2\na 1 1 0 16 16\na 1 2 1 16 16\n# Both pages have a deed of another heap, so heap 2 finds no space, and its name stands for nothing.\na 1 3 2 16 16\nf 1 3\n# The same page is read as neither offered nor parked while thread 1 has its right.\na 2 4 0 16 16\n# Frees by address and turn: of no page, of no grain, of no block that lived, and of one that was ended before.\nr 1 0x00009000 0\nr 1 0x00001008 0\nr 1 0x00001010 7\nr 1 0x00001000 0\nr 1 0x00001000 0\nflush 1\n")
    ≡ shown (deed_of 1 1 0 (Kind.Class 0) ∷ back_of 1 1 ∷ give_of 1 4096 0 16 0 ∷ deed_of 1 2 1 (Kind.Class 0) ∷ back_of 1 2 ∷ give_of 1 8192 0 16 1 ∷ no_space_of 1 3 ∷ skipped_of 1 3 ∷ held_of 2 1 4 ∷ outside_of 1 36864 0 ∷ unaligned_of 1 4104 0 ∷ no_block_of 1 4112 7 ∷ freed_of 1 4096 0 0 ∷ ended_of 1 4096 0 ∷ closed ∷ []) (row_of 1 0 (Kind.Class 0) 0 256 0 (marked true true false true) ∷ row_of 2 1 (Kind.Class 0) 1 255 0 (marked true true false false) ∷ []) (totalled 2 2 1 2 1)
unfolding seen grains_that each_of free_bits
example_refusals = refl

example_shared : seen
    (codes "pas 1 pages 8 threads 2 heaps 2 age 2\nshared 1\n# In a shared heap blocks of all classes stand on the same page, and up to four slots are taken at once.\na 1 1 1 16 16\na 1 2 1 48 16\na 2 3 1 16 16\na 2 4 1 512 16\n# In heap 0, which is exclusive, each class has pages of its own.\na 1 5 0 16 16\na 1 6 0 48 16\nf 1 1\nflush 1\n# Block 1's slot is free again, but thread 1 goes on with the slots that it cached.\na 1 7 1 16 16\n")
    ≡ shown (deed_of 1 1 1 Kind.Shared ∷ back_of 1 1 ∷ give_of 1 4096 0 16 1 ∷ give_of 1 4192 0 48 1 ∷ give_of 2 4160 0 16 1 ∷ give_of 2 4608 0 512 1 ∷ deed_of 1 2 0 (Kind.Class 0) ∷ back_of 1 2 ∷ give_of 1 8192 0 16 0 ∷ deed_of 1 3 0 (Kind.Class 2) ∷ back_of 1 3 ∷ give_of 1 12288 0 48 0 ∷ freed_of 1 4096 0 0 ∷ give_of 1 4112 0 16 1 ∷ closed ∷ []) (row_of 1 1 Kind.Shared 4 219 0 (marked true true false false) ∷ row_of 2 0 (Kind.Class 0) 1 255 0 (marked true true false false) ∷ row_of 3 0 (Kind.Class 2) 1 253 0 (marked true true false false) ∷ []) (totalled 3 3 6 7 1)
unfolding seen grains_that each_of free_bits
example_shared = refl

example_threads : seen
    (codes "pas 1 pages 8 threads 2 heaps 2 age 2\n# Thread 1 allocates in two heaps; each heap gets a page of its own.\na 1 1 0 100 16\na 1 2 1 100 16\na 1 3 0 100 16\n# A block may be freed by another thread from the next phase on.\nphase\nf 2 1\nf 2 2\n# The flush ends both blocks, in the order of the frees.\nflush 2\n# Thread 1 has cached the other slots of its pages: it goes on with the lowest one.\na 1 4 0 100 16\n# Thread 2 gets a page of its own, since all free slots of page 1 are cached by thread 1.\na 2 5 0 100 16\nstop 1\n# After the stop the ended block's slot is on an offered page, and it is the lowest.\na 2 6 1 100 16\n")
    ≡ shown (deed_of 1 1 0 (Kind.Class 6) ∷ back_of 1 1 ∷ give_of 1 4096 0 112 0 ∷ deed_of 1 2 1 (Kind.Class 6) ∷ back_of 1 2 ∷ give_of 1 8192 0 112 1 ∷ give_of 1 4208 0 112 0 ∷ phase_of 2 ∷ freed_of 2 4096 0 0 ∷ freed_of 2 8192 0 0 ∷ give_of 1 4320 0 112 0 ∷ deed_of 2 3 0 (Kind.Class 6) ∷ back_of 2 3 ∷ give_of 2 12288 0 112 0 ∷ give_of 2 8192 1 112 1 ∷ closed ∷ []) (row_of 1 0 (Kind.Class 6) 2 242 0 (marked true true false false) ∷ row_of 2 1 (Kind.Class 6) 1 249 0 (marked true true false true) ∷ row_of 3 0 (Kind.Class 6) 1 249 0 (marked true true false false) ∷ []) (totalled 3 3 4 6 2)
unfolding seen grains_that each_of free_bits
example_threads = refl

example_reallocations : seen
    (codes "pas 4 pages 3 threads 1 heaps 1 age 2\n# kept: 32 bytes are its room\na 1 1 0 24 16\nm 1 2 1 32 16\n# replaced, and so it is logged\nm 1 3 2 33 16\n# replaced since its address is no multiple of 32\na 1 6 0 48 16\nm 1 7 6 16 32\n# no bytes count as one\nm 1 8 7 0 16\nm 1 9 8 64 16\n# refused, and what is asked of a refused one is skipped\nm 1 10 9 80 16\nm 1 11 10 16 16\nf 1 11\nf 1 9\nflush 1\n# whether it lives isn't asked before its flush\nm 1 12 1 16 16\nf 1 12\n")
    ≡ shown (deed_of 1 1 0 (Kind.Class 1) ∷ back_of 1 1 ∷ give_of 1 4096 0 32 0 ∷ kept_of 1 4096 0 2 ∷ deed_of 1 2 0 (Kind.Class 2) ∷ back_of 1 2 ∷ give_of 1 8192 0 48 0 ∷ give_of 1 8240 0 48 0 ∷ give_of 1 4128 0 32 0 ∷ kept_of 1 4128 0 8 ∷ deed_of 1 3 0 (Kind.Class 3) ∷ back_of 1 3 ∷ give_of 1 12288 0 64 0 ∷ no_space_of 1 10 ∷ skipped_of 1 11 ∷ skipped_of 1 11 ∷ freed_of 1 4096 0 0 ∷ freed_of 1 8240 0 0 ∷ freed_of 1 4128 0 0 ∷ freed_of 1 12288 0 0 ∷ kept_of 1 4096 0 12 ∷ closed ∷ ended_of 1 4096 0 ∷ []) (row_of 1 0 (Kind.Class 1) 0 256 0 (marked true true false true) ∷ row_of 2 0 (Kind.Class 2) 1 253 0 (marked true true false false) ∷ row_of 3 0 (Kind.Class 3) 0 256 0 (marked true true false true) ∷ []) (totalled 3 3 1 5 4)
unfolding seen grains_that each_of free_bits
example_reallocations = refl

example_sized_frees : seen
    (codes "pas 2 pages 4 threads 1 heaps 1 age 2\na 1 1 0 24 16\na 1 2 0 600 16\na 1 3 0 5000 16\n# A free that names a size ends the block only where a request for it gets the block's room. The block has 32 bytes, and 40 get 48.\nfs 1 1 40 16\nfs 1 1 32 16\n# Now it has ended, whatever room is named.\nfs 1 1 40 16\nflush 1\n# A bit-fit block of 608 bytes, and two whole pages, the latter by their address.\nfs 1 2 592 16\nfs 1 2 593 16\nrs 1 0x00003000 0 4096 16\nrs 1 0x00003000 0 4097 4096\n")
    ≡ shown (deed_of 1 1 0 (Kind.Class 1) ∷ back_of 1 1 ∷ give_of 1 4096 0 32 0 ∷ deed_of 1 2 0 Kind.Bitfit ∷ back_of 1 2 ∷ give_of 1 8192 0 608 0 ∷ deed_of 1 3 0 Kind.Large ∷ deed_of 1 4 0 Kind.Large ∷ back_of 1 3 ∷ back_of 1 4 ∷ give_of 1 12288 0 8192 0 ∷ size_differs_of 1 4096 0 48 ∷ freed_of 1 4096 0 0 ∷ ended_of 1 4096 0 ∷ closed ∷ size_differs_of 1 8192 0 592 ∷ freed_of 1 8192 0 0 ∷ size_differs_of 1 12288 0 4096 ∷ freed_of 1 12288 0 0 ∷ []) (row_of 1 0 (Kind.Class 1) 0 256 0 (marked true true false true) ∷ row_of 2 0 Kind.Bitfit 0 256 0 (marked true true false true) ∷ row_of 3 0 Kind.Large 0 256 0 (marked true true false true) ∷ row_of 4 0 Kind.Large 0 256 0 (marked true true false true) ∷ []) (totalled 4 4 0 3 3)
unfolding seen grains_that each_of free_bits
example_sized_frees = refl

example_twenty_classes : seen
    (codes "pas 3 pages 24 threads 1 heaps 1 age 2\n# A block of each class, which is also the size of its request.\na 1 1 0 16 16\na 1 2 0 32 16\na 1 3 0 48 16\na 1 4 0 64 16\na 1 5 0 80 16\na 1 6 0 96 16\na 1 7 0 112 16\na 1 8 0 128 16\na 1 9 0 160 16\na 1 10 0 192 16\na 1 11 0 224 16\na 1 12 0 256 16\na 1 13 0 320 16\na 1 14 0 384 16\na 1 15 0 448 16\na 1 16 0 512 16\na 1 17 0 640 16\na 1 18 0 768 16\na 1 19 0 896 16\na 1 20 0 1024 16\n# A size between two classes gets the next one; so does a size whose class isn't a multiple of the alignment.\na 1 21 0 513 16\na 1 22 0 641 16\na 1 23 0 769 16\na 1 24 0 897 16\na 1 25 0 600 256\na 1 26 0 769 256\n# Above the greatest class a block takes just the grains that it needs.\na 1 27 0 1025 16\n")
    ≡ shown (deed_of 1 1 0 (Kind.Class 0) ∷ back_of 1 1 ∷ give_of 1 4096 0 16 0 ∷ deed_of 1 2 0 (Kind.Class 1) ∷ back_of 1 2 ∷ give_of 1 8192 0 32 0 ∷ deed_of 1 3 0 (Kind.Class 2) ∷ back_of 1 3 ∷ give_of 1 12288 0 48 0 ∷ deed_of 1 4 0 (Kind.Class 3) ∷ back_of 1 4 ∷ give_of 1 16384 0 64 0 ∷ deed_of 1 5 0 (Kind.Class 4) ∷ back_of 1 5 ∷ give_of 1 20480 0 80 0 ∷ deed_of 1 6 0 (Kind.Class 5) ∷ back_of 1 6 ∷ give_of 1 24576 0 96 0 ∷ deed_of 1 7 0 (Kind.Class 6) ∷ back_of 1 7 ∷ give_of 1 28672 0 112 0 ∷ deed_of 1 8 0 (Kind.Class 7) ∷ back_of 1 8 ∷ give_of 1 32768 0 128 0 ∷ deed_of 1 9 0 (Kind.Class 8) ∷ back_of 1 9 ∷ give_of 1 36864 0 160 0 ∷ deed_of 1 10 0 (Kind.Class 9) ∷ back_of 1 10 ∷ give_of 1 40960 0 192 0 ∷ deed_of 1 11 0 (Kind.Class 10) ∷ back_of 1 11 ∷ give_of 1 45056 0 224 0 ∷ deed_of 1 12 0 (Kind.Class 11) ∷ back_of 1 12 ∷ give_of 1 49152 0 256 0 ∷ deed_of 1 13 0 (Kind.Class 12) ∷ back_of 1 13 ∷ give_of 1 53248 0 320 0 ∷ deed_of 1 14 0 (Kind.Class 13) ∷ back_of 1 14 ∷ give_of 1 57344 0 384 0 ∷ deed_of 1 15 0 (Kind.Class 14) ∷ back_of 1 15 ∷ give_of 1 61440 0 448 0 ∷ deed_of 1 16 0 (Kind.Class 15) ∷ back_of 1 16 ∷ give_of 1 65536 0 512 0 ∷ deed_of 1 17 0 (Kind.Class 16) ∷ back_of 1 17 ∷ give_of 1 69632 0 640 0 ∷ deed_of 1 18 0 (Kind.Class 17) ∷ back_of 1 18 ∷ give_of 1 73728 0 768 0 ∷ deed_of 1 19 0 (Kind.Class 18) ∷ back_of 1 19 ∷ give_of 1 77824 0 896 0 ∷ deed_of 1 20 0 (Kind.Class 19) ∷ back_of 1 20 ∷ give_of 1 81920 0 1024 0 ∷ give_of 1 70272 0 640 0 ∷ give_of 1 74496 0 768 0 ∷ give_of 1 78720 0 896 0 ∷ give_of 1 82944 0 1024 0 ∷ give_of 1 75264 0 768 0 ∷ give_of 1 83968 0 1024 0 ∷ deed_of 1 21 0 Kind.Bitfit ∷ back_of 1 21 ∷ give_of 1 86016 0 1040 0 ∷ closed ∷ []) (row_of 1 0 (Kind.Class 0) 1 255 0 (marked true true false false) ∷ row_of 2 0 (Kind.Class 1) 1 254 0 (marked true true false false) ∷ row_of 3 0 (Kind.Class 2) 1 253 0 (marked true true false false) ∷ row_of 4 0 (Kind.Class 3) 1 252 0 (marked true true false false) ∷ row_of 5 0 (Kind.Class 4) 1 251 0 (marked true true false false) ∷ row_of 6 0 (Kind.Class 5) 1 250 0 (marked true true false false) ∷ row_of 7 0 (Kind.Class 6) 1 249 0 (marked true true false false) ∷ row_of 8 0 (Kind.Class 7) 1 248 0 (marked true true false false) ∷ row_of 9 0 (Kind.Class 8) 1 246 0 (marked true true false false) ∷ row_of 10 0 (Kind.Class 9) 1 244 0 (marked true true false false) ∷ row_of 11 0 (Kind.Class 10) 1 242 0 (marked true true false false) ∷ row_of 12 0 (Kind.Class 11) 1 240 0 (marked true true false false) ∷ row_of 13 0 (Kind.Class 12) 1 236 0 (marked true true false false) ∷ row_of 14 0 (Kind.Class 13) 1 232 0 (marked true true false false) ∷ row_of 15 0 (Kind.Class 14) 1 228 0 (marked true true false false) ∷ row_of 16 0 (Kind.Class 15) 1 224 0 (marked true true false false) ∷ row_of 17 0 (Kind.Class 16) 2 176 0 (marked true true false false) ∷ row_of 18 0 (Kind.Class 17) 3 112 0 (marked true true false false) ∷ row_of 19 0 (Kind.Class 18) 2 144 0 (marked true true false false) ∷ row_of 20 0 (Kind.Class 19) 3 64 0 (marked true true false false) ∷ row_of 21 0 Kind.Bitfit 1 191 0 (marked true true false false) ∷ []) (totalled 21 21 27 27 0)
unfolding seen grains_that each_of free_bits
example_twenty_classes = refl

example_large_index : seen
    (codes "pas 1 pages 4 threads 2 heaps 1 age 2\na 1 1 0 4096 16\nf 1 1\nphase\na 2 2 0 4096 16\nf 2 2\nflush 2\nphase\nidle 0\nphase\na 2 3 0 4096 16\n")
    ≡ shown (deed_of 1 1 0 Kind.Large ∷ back_of 1 1 ∷ give_of 1 4096 0 4096 0 ∷ phase_of 2 ∷ deed_of 2 2 0 Kind.Large ∷ back_of 2 2 ∷ give_of 2 8192 0 4096 0 ∷ freed_of 2 8192 0 0 ∷ phase_of 3 ∷ freed_of 1 4096 0 0 ∷ stopped_of 1 ∷ stopped_of 2 ∷ phase_of 4 ∷ give_of 2 8192 1 4096 0 ∷ closed ∷ []) (row_of 1 0 Kind.Large 0 256 0 (marked true true false true) ∷ row_of 2 0 Kind.Large 1 0 0 (marked true false true true) ∷ []) (totalled 2 2 1 3 2)
unfolding seen grains_that each_of free_bits
example_large_index = refl

-- Texts that are no traces, each with the line and the reason of its first fault, and the beginnings of a trace, by computing.

-- a text, and the line and the reason of its first fault
abbrev Text : Type 0
Text = List ℕ × ℕ × Reason

abbrev texts : List Text
texts =
    (codes "pas 1 pages 4 threads 2 heaps 1 age 2\na 1 1 0 16 24\n", 2, Reason.BadAlign)
    ∷ (codes "pas 1 pages 4 threads 2 heaps 1 age 2\na 1 1 1 16 16\n", 2, Reason.BadHeap)
    ∷ (codes "pas 1 pages 4 threads 2 heaps 1 age 2\na 1 01 0 16 16\n", 2, Reason.BadNumber)
    ∷ (codes "pas 1 pages 4 threads 2 heaps 1 age 2\nflush 3\n", 2, Reason.BadThread)
    ∷ (codes "pas 1 pages 4 threads 2 heaps 1 age 2\nalloc 1\n", 2, Reason.BadWord)
    ∷ (codes "pas 1 pages 4 threads 1 heaps 1 age 2\na 1 1 0 18446744073709551616 16\n", 2, Reason.BadNumber)
    ∷ (codes "pas 1 pages 4 threads 1 heaps 1 age 2\ntick 1099511627776\n", 2, Reason.BadNumber)
    ∷ (codes "pas 1 pages 4 threads 1 heaps 1 age 2\na 1 1 0 2049 16\na 1 2 0 8192 16\nf 1 1\nf 1 2\nflush 1\na 1 3 0 16384 16\na 1 4 0 16385 16\n", 8, Reason.BadSize)
    ∷ (codes "pas 1 pages 4 threads 1 heaps 1 age 2\na 1 1 0 18446744073709551615 16\n", 2, Reason.BadSize)
    ∷ (codes "pas 1 pages 4 threads 1 heaps 1 age 2\nflush 1\r\n", 2, Reason.BadNumber)
    ∷ (codes "pas 1 pages 1 threads 1 heaps 1 age 2\na 1 1 0 24 16\nfs 1 1 40 16\nfs 1 1 32 16\nfs 1 1 32 16\n", 3, Reason.BadWord)
    ∷ (codes "pas 1 pages 4 threads 2 heaps 1 age 2\na 1 1 0 16 16\na 2 1 0 16 16\n", 3, Reason.NameTaken)
    ∷ (codes "pas 1 pages 4 threads 2 heaps 1 age 2\nf 1 9\n", 2, Reason.NameUnknown)
    ∷ (codes "pas 1 pages 4 threads 2 heaps 1 age 2\na 1 1 0 16 16\nf 2 1\n", 3, Reason.TooEarly)
    ∷ (codes "pas 1 pages 4096 threads 1 heaps 1 age 2\npass\npass\npass\npass\npass\npass\npass\npass\npass\npass\npass\npass\npass\npass\npass\npass\npass\npass\npass\npass\npass\npass\npass\npass\npass\npass\npass\npass\npass\npass\npass\npass\npass\npass\npass\npass\npass\npass\npass\npass\npass\npass\npass\npass\npass\npass\npass\npass\npass\npass\npass\npass\npass\npass\npass\npass\npass\npass\npass\npass\npass\npass\npass\npass\npass\npass\npass\npass\npass\npass\npass\npass\npass\npass\npass\npass\npass\npass\npass\npass\npass\npass\npass\npass\npass\npass\npass\npass\npass\npass\npass\npass\npass\npass\npass\npass\npass\npass\npass\npass\npass\npass\npass\npass\npass\npass\npass\npass\npass\npass\npass\npass\npass\npass\npass\npass\npass\npass\npass\npass\npass\npass\npass\npass\npass\npass\npass\npass\npass\npass\npass\npass\npass\npass\npass\npass\npass\npass\npass\npass\npass\npass\npass\npass\npass\npass\npass\npass\npass\npass\npass\npass\npass\npass\npass\npass\npass\npass\npass\npass\npass\npass\npass\npass\npass\npass\npass\npass\npass\npass\npass\npass\npass\npass\npass\npass\npass\npass\npass\npass\npass\npass\npass\npass\npass\npass\npass\npass\npass\npass\npass\npass\npass\npass\npass\npass\npass\npass\npass\npass\npass\npass\npass\npass\npass\npass\npass\npass\npass\npass\npass\npass\npass\npass\npass\npass\npass\npass\npass\npass\npass\npass\npass\npass\npass\npass\npass\npass\npass\npass\npass\npass\npass\npass\npass\npass\npass\npass\npass\npass\npass\npass\npass\npass\npass\npass\npass\npass\npass\npass\npass\npass\npass\npass\npass\npass\npass\npass\npass\npass\npass\npass\npass\npass\npass\npass\npass\npass\npass\npass\npass\npass\npass\npass\npass\npass\npass\npass\npass\npass\npass\npass\npass\npass\npass\npass\npass\npass\npass\npass\npass\npass\npass\npass\npass\npass\npass\npass\npass\npass\npass\npass\npass\npass\npass\npass\npass\npass\npass\npass\npass\npass\npass\npass\npass\npass\npass\npass\npass\npass\npass\npass\npass\npass\npass\npass\npass\npass\npass\npass\npass\npass\npass\npass\npass\npass\npass\npass\npass\npass\npass\npass\npass\npass\npass\npass\npass\npass\npass\npass\npass\npass\npass\npass\npass\npass\npass\npass\npass\npass\npass\npass\npass\npass\npass\npass\npass\npass\npass\npass\npass\npass\npass\npass\npass\npass\npass\npass\npass\npass\npass\npass\npass\npass\npass\npass\npass\npass\npass\npass\npass\npass\npass\npass\npass\npass\npass\npass\npass\npass\npass\npass\npass\npass\npass\npass\npass\npass\npass\npass\npass\npass\npass\npass\npass\npass\npass\npass\npass\npass\npass\npass\npass\npass\npass\npass\npass\npass\npass\npass\npass\npass\npass\npass\npass\npass\npass\npass\npass\npass\npass\npass\npass\npass\npass\npass\npass\npass\npass\npass\npass\npass\npass\npass\npass\npass\npass\npass\npass\npass\npass\npass\npass\npass\npass\npass\npass\npass\npass\npass\npass\npass\npass\npass\npass\npass\npass\npass\npass\npass\npass\npass\npass\npass\npass\npass\npass\npass\n", 489, Reason.TraceTooLarge)
    ∷ (codes "pas 3 pages 16384 threads 1 heaps 1 age 2\na 1 1 0 67108865 16\n", 2, Reason.BadSize)
    ∷ (codes "pas 2 pages 16384 threads 1 heaps 1 age 2\na 1 1 0 67108864 16\n", 1, Reason.BadHeader)
    ∷ (codes "pas 3 pages 16385 threads 1 heaps 1 age 2\na 1 1 0 67108864 16\n", 1, Reason.BadHeader)
    ∷ (codes "pas 4 pages 2 threads 1 heaps 1 age 2\na 1 1 0 24 16\nm 1 2 1 32 16\nm 1 2 9 16 16\n", 4, Reason.NameTaken)
    ∷ (codes "pas 4 pages 2 threads 1 heaps 1 age 2\na 1 1 0 24 16\nm 1 2 1 32 16\nm 1 3 9 16 16\n", 4, Reason.NameUnknown)
    ∷ (codes "pas 3 pages 2 threads 1 heaps 1 age 2\na 1 1 0 24 16\nm 1 2 1 32 16\nm 1 3 2 33 16\nm 1 4 3 64 16\nm 1 5 4 16 16\nf 1 3\n", 3, Reason.BadWord)
    ∷ (codes "pas 5 pages 2 threads 1 heaps 1 age 2\na 1 1 0 513 16\n", 1, Reason.BadHeader)
    -- those of examples/, by their names there
    -- fault_bad_align
    ∷ (codes "pas 1 pages 4 threads 2 heaps 1 age 2\na 1 1 0 24 48\n", 2, Reason.BadAlign)
    -- fault_bad_header
    ∷ (codes "pas 1 pages 5000 threads 2 heaps 1 age 2\na 1 1 0 24 16\n", 1, Reason.BadHeader)
    -- fault_bad_heap
    ∷ (codes "pas 1 pages 4 threads 2 heaps 1 age 2\na 1 1 1 24 16\n", 2, Reason.BadHeap)
    -- fault_bad_number
    ∷ (codes "pas 1 pages 4 threads 2 heaps 1 age 2\na 1 1 0 024 16\n", 2, Reason.BadNumber)
    -- fault_bad_size
    ∷ (codes "pas 1 pages 4 threads 2 heaps 1 age 2\na 1 1 0 16384 16\na 1 2 0 16385 16\n", 3, Reason.BadSize)
    -- fault_bad_thread
    ∷ (codes "pas 1 pages 4 threads 2 heaps 1 age 2\na 3 1 0 24 16\n", 2, Reason.BadThread)
    -- fault_bad_word
    ∷ (codes "pas 1 pages 4 threads 2 heaps 1 age 2\na 1 1 0 24 16\nfree 1 1\n", 3, Reason.BadWord)
    -- fault_name_taken
    ∷ (codes "pas 1 pages 4 threads 2 heaps 1 age 2\na 1 1 0 24 16\nf 1 1\na 1 1 0 24 16\n", 4, Reason.NameTaken)
    -- fault_name_unknown
    ∷ (codes "pas 1 pages 4 threads 1 heaps 1 age 2\na 1 1 0 24 16\nf 1 2\n", 3, Reason.NameUnknown)
    -- fault_too_early
    ∷ (codes "pas 1 pages 4 threads 2 heaps 1 age 2\na 1 1 0 24 16\nf 2 1\nphase\nf 2 1\n", 3, Reason.TooEarly)
    -- fault_trace_too_large
    ∷ (codes "pas 1 pages 4096 threads 1 heaps 1 age 2\n# Each pass may bring 4,097 lines, and a transcript may have 2,000,000.\npass\npass\npass\npass\npass\npass\npass\npass\npass\npass\npass\npass\npass\npass\npass\npass\npass\npass\npass\npass\npass\npass\npass\npass\npass\npass\npass\npass\npass\npass\npass\npass\npass\npass\npass\npass\npass\npass\npass\npass\npass\npass\npass\npass\npass\npass\npass\npass\npass\npass\npass\npass\npass\npass\npass\npass\npass\npass\npass\npass\npass\npass\npass\npass\npass\npass\npass\npass\npass\npass\npass\npass\npass\npass\npass\npass\npass\npass\npass\npass\npass\npass\npass\npass\npass\npass\npass\npass\npass\npass\npass\npass\npass\npass\npass\npass\npass\npass\npass\npass\npass\npass\npass\npass\npass\npass\npass\npass\npass\npass\npass\npass\npass\npass\npass\npass\npass\npass\npass\npass\npass\npass\npass\npass\npass\npass\npass\npass\npass\npass\npass\npass\npass\npass\npass\npass\npass\npass\npass\npass\npass\npass\npass\npass\npass\npass\npass\npass\npass\npass\npass\npass\npass\npass\npass\npass\npass\npass\npass\npass\npass\npass\npass\npass\npass\npass\npass\npass\npass\npass\npass\npass\npass\npass\npass\npass\npass\npass\npass\npass\npass\npass\npass\npass\npass\npass\npass\npass\npass\npass\npass\npass\npass\npass\npass\npass\npass\npass\npass\npass\npass\npass\npass\npass\npass\npass\npass\npass\npass\npass\npass\npass\npass\npass\npass\npass\npass\npass\npass\npass\npass\npass\npass\npass\npass\npass\npass\npass\npass\npass\npass\npass\npass\npass\npass\npass\npass\npass\npass\npass\npass\npass\npass\npass\npass\npass\npass\npass\npass\npass\npass\npass\npass\npass\npass\npass\npass\npass\npass\npass\npass\npass\npass\npass\npass\npass\npass\npass\npass\npass\npass\npass\npass\npass\npass\npass\npass\npass\npass\npass\npass\npass\npass\npass\npass\npass\npass\npass\npass\npass\npass\npass\npass\npass\npass\npass\npass\npass\npass\npass\npass\npass\npass\npass\npass\npass\npass\npass\npass\npass\npass\npass\npass\npass\npass\npass\npass\npass\npass\npass\npass\npass\npass\npass\npass\npass\npass\npass\npass\npass\npass\npass\npass\npass\npass\npass\npass\npass\npass\npass\npass\npass\npass\npass\npass\npass\npass\npass\npass\npass\npass\npass\npass\npass\npass\npass\npass\npass\npass\npass\npass\npass\npass\npass\npass\npass\npass\npass\npass\npass\npass\npass\npass\npass\npass\npass\npass\npass\npass\npass\npass\npass\npass\npass\npass\npass\npass\npass\npass\npass\npass\npass\npass\npass\npass\npass\npass\npass\npass\npass\npass\npass\npass\npass\npass\npass\npass\npass\npass\npass\npass\npass\npass\npass\npass\npass\npass\npass\npass\npass\npass\npass\npass\npass\npass\npass\npass\npass\npass\npass\npass\npass\npass\npass\npass\npass\npass\npass\npass\npass\npass\npass\npass\npass\npass\npass\npass\npass\npass\npass\npass\npass\npass\npass\npass\npass\npass\npass\npass\npass\npass\npass\npass\npass\npass\npass\npass\npass\npass\npass\npass\npass\npass\npass\npass\npass\npass\npass\npass\npass\npass\npass\npass\npass\npass\npass\npass\npass\n", 490, Reason.TraceTooLarge)
    -- fault_later_word
    ∷ (codes "pas 1 pages 4 threads 1 heaps 1 age 2\na 1 1 0 24 16\n# A free that names a size came with version 2.\nfs 1 1 24 16\n", 4, Reason.BadWord)
    -- fault_large_region
    ∷ (codes "pas 2 pages 4097 threads 1 heaps 1 age 2\n# Regions of more than 4,096 pages came with version 3.\na 1 1 0 24 16\n", 1, Reason.BadHeader)
    ∷ []

fault_of_each_text : map (λ (t : Text). seen t.0) texts ≡ map (λ (t : Text). faulty t.1 t.2) texts
unfolding seen grains_that
fault_of_each_text = refl

-- ---- the beginnings of one trace that are none themselves: they end in the header, in a request, in its alignment, in a free
abbrev cut : ℕ → List ℕ
cut n = take n (codes "pas 1 pages 4 threads 1 heaps 1 age 2\na 1 1 0 24 16\nf 1 1\n")

abbrev cuts : ℕ → ℕ → List (Result Seen TraceFault)
cuts from many = map (λ n. seen (cut n)) (numbers_from from many)

fault_cut_in_header : cuts 0 37 ≡ map (λ n. faulty 1 Reason.BadHeader) (numbers_from 0 37)
unfolding seen grains_that
fault_cut_in_header = refl

fault_cut_in_request : cuts 39 11 ≡ map (λ n. faulty 2 Reason.BadWord) (numbers_from 39 11)
unfolding seen grains_that
fault_cut_in_request = refl

fault_cut_in_alignment : seen (cut 50) ≡ faulty 2 Reason.BadAlign
unfolding seen grains_that
fault_cut_in_alignment = refl

fault_cut_in_free : cuts 53 4 ≡ map (λ n. faulty 3 Reason.BadWord) (numbers_from 53 4)
unfolding seen grains_that
fault_cut_in_free = refl

-- ---- those that end before or behind the last byte of a line are traces
row_cut_at_header : cuts 37 2 ≡ map (λ n. shown (closed ∷ []) ([]) (totalled 0 0 0 0 0)) (numbers_from 37 2)
unfolding seen grains_that each_of free_bits
row_cut_at_header = refl

row_cut_at_request : cuts 51 2
    ≡ map (λ n. shown (deed_of 1 1 0 (Kind.Class 1) ∷ back_of 1 1 ∷ give_of 1 4096 0 32 0 ∷ closed ∷ [])
    (row_of 1 0 (Kind.Class 1) 1 254 0 (marked true true false false) ∷ []) (totalled 1 1 1 1 0)) (numbers_from 51 2)
unfolding seen grains_that each_of free_bits
row_cut_at_request = refl

row_cut_at_free : cuts 57 2
    ≡ map (λ n. shown (deed_of 1 1 0 (Kind.Class 1) ∷ back_of 1 1 ∷ give_of 1 4096 0 32 0 ∷ closed ∷ freed_of 1 4096 0 0 ∷ [])
    (row_of 1 0 (Kind.Class 1) 0 256 0 (marked true true false true) ∷ []) (totalled 1 1 0 1 1)) (numbers_from 57 2)
unfolding seen grains_that each_of free_bits
row_cut_at_free = refl
