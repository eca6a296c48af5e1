-- Random requests. The first draw gives the heap, the second a lot that decides on the size and the alignment, which the
-- third and the fourth give.
use Rattle.std.specs.Prelude.{ℕ, ◌≡◌, ◌<◌, ◌≤◌, ◌⊎◌, ◌+◌, ◌*◌, ◌^◌, nat_eq, nat_lt, if◌then◌else◌}
use Rattle.pas_generate.specs.{Draws.{draw, moved_by}, declared.operation.Request.Request}

-- the lot of a request, of sixteen
abbrev pub lot : ℕ → ℕ
lot x = draw 2 x 16

-- One request in sixteen is larger than any bit-fit one, and two are larger than any class. The others have a class
-- where their alignment allows it.
abbrev pub size_from : ℕ → ℕ
size_from x = if nat_eq (lot x) 0 then 2049 + draw 3 x 6144 else (if nat_lt (lot x) 3 then 513 + draw 3 x 1536 else draw 3 x 513)

-- only the small requests have an alignment of their own: 16, 32 or 64
abbrev pub align_from : ℕ → ℕ
align_from x = if nat_lt (lot x) 3 then 16 else 16 * 2 ^ draw 4 x 3

-- the request that is drawn from here on
abbrev pub request_from : ℕ → Request
request_from x = record { heap = draw 1 x 6; size = size_from x; align = align_from x }

-- the source of the draws after it
abbrev pub after_request : ℕ → ℕ
after_request x = if nat_lt (lot x) 3 then moved_by 3 x else moved_by 4 x

-- a request that a trace of six heaps over at least two pages may have
pub record IsValid (r : Request) : Type 0 where
  pub heap : r.heap < 6
  pub size : r.size ≤ 8192
  pub align : (r.align ≡ 16) ⊎ ((r.align ≡ 32) ⊎ (r.align ≡ 64))
