-- What several reads or writes in a row do to the bytes that are told.
use Rattle.std.proofs.Common.{◌≡◌, ℕ, ◌+◌, ◌≤◌, List, [], ◌++◌, Option, None, Some, take, drop, length, ap, sym, ◌∙◌, subst, append_assoc, arith, length-take}
use Rattle.std.proofs.{Common.{take-append-drop, take_all}, lemmas.List.{take-append-le, drop_all}, Math.Seq.{take-add, take-append-add}}
use borrow.Rule.Slice.PartMut.{put_mid}
use Rattle.pas_io.specs.{Inputs.HasRead, Told.{KeepsTold, Moves, MovesTold, Writes, WritesFront}}

-- Two writes in a row write the bytes of both.
pub writes_more : (before middle after : Option (List ℕ)) (xs ys : List ℕ) → Writes before middle xs → Writes middle after ys → Writes before after (xs ++ ys)
writes_more a middle after xs ys first next = search (arith, append_assoc)

-- A write of the next bytes in a row writes so many more of them.
pub writes_on : (before middle after : Option (List ℕ)) (bytes : List ℕ) (k n : ℕ) → Writes before middle (take k bytes)
    → Writes middle after (take n (drop k bytes)) → Writes before after (take (k + n) bytes)
writes_on before middle after bytes k n first next = rw (take-add k n bytes) (writes_more before middle after (take k bytes) (take n (drop k bytes)) first next)

-- A first part that was written, and then nothing more, is a first part of the bytes.
pub front_of : (before after after' : Option (List ℕ)) (bytes : List ℕ) (k : ℕ) → Writes before after (take k bytes) → KeepsTold after after'
    → WritesFront before after' bytes
front_of None after after' bytes k wrote same = (take k bytes, drop k bytes, sym (take-append-drop k bytes), tt)
front_of (Some held) after after' bytes k wrote same =
    let Kept : Option (List ℕ) → Type 0 = λ h. KeepsTold h after' in
    (take k bytes, drop k bytes, sym (take-append-drop k bytes), subst Kept wrote same)

-- a read after others: what is left, and what the buffer's front holds
pub filled_more : (told buffer part : List ℕ) (k m n : ℕ) → k ≤ length buffer → take k buffer ≡ take k told → n ≤ length part
    → take n part ≡ take n (drop k told) → take (k + n) (put_mid k m buffer part) ≡ take (k + n) told
filled_more told buffer part k m n within front fits moved =
    search (arith, length-take, take-append-add, take-append-le, take-add)

-- What moves from what is left of the told bytes moves the next ones of them.
pub left_more : (told : List ℕ) (left left' : Option (List ℕ)) (buffer buffer' : List ℕ) (k n : ℕ) → left ≡ Some (drop k told)
    → MovesTold left left' buffer buffer' n → Moves (drop k told) left' buffer buffer' n
left_more told left left' buffer buffer' k n is moves = let Moved : Option (List ℕ) → Type 0 = λ l. MovesTold l left' buffer buffer' n in subst Moved is moves

-- ---- a buffer that grows keeps its front
grown_front : (items new more : List ℕ) (n size : ℕ) → n ≡ length items → n ≤ size → new ≡ take size items ++ more → take n new ≡ take n items
grown_front items new more n size full less is =
    let whole : take size items ≡ items = take_all size items (omega arith) in
    ap (λ (t : List ℕ). take n t) (is ∙ ap (λ (t : List ℕ). t ++ more) whole) ∙ take-append-le n items more (omega arith)

-- What was read stays so in a buffer that grew.
pub has_read_grown : (told : List ℕ) (rest : Option (List ℕ)) (items new more : List ℕ) (n size : ℕ) → n ≡ length items → n ≤ size
    → new ≡ take size items ++ more → HasRead told rest items n → HasRead told rest new n
has_read_grown told rest items new more n size full less is read =
    record { within = read.within; left = read.left; front = grown_front items new more n size full less is ∙ read.front }

-- a source that was read to its end
pub whole_input : (told : List ℕ) (rest : Option (List ℕ)) (buffer bytes : List ℕ) (n most : ℕ) → bytes ≡ take n buffer → n ≤ most → HasRead told rest buffer n
    → n ≡ length told → (bytes ≡ told) × (length told ≤ most)
whole_input told rest buffer bytes n most is fits read all = (is ∙ read.front ∙ take_all n told (omega arith), omega arith)

-- .. of which nothing is left then
pub read_out : (told : List ℕ) (rest : Option (List ℕ)) (buffer : List ℕ) (n : ℕ) → HasRead told rest buffer n → n ≡ length told → rest ≡ Some []
read_out told rest buffer n read all = read.left ∙ ap Some (drop_all n told (omega (arith, all)))

-- a slice of a whole vector that came back
pub all_of_it : (slice items : List ℕ) (n : ℕ) → length slice ≡ n → take n (slice ++ drop (length slice) items) ≡ slice
all_of_it slice items n size = take-append-le n slice (drop (length slice) items) (omega arith) ∙ take_all n slice (omega arith)
