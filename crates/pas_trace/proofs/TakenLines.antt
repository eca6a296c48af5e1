-- A text whose lines are taken as its bytes come.
use Rattle.std.proofs.Common.{arith, ◌≡◌, ◌≢◌, ℕ, ◌+◌, ◌++◌, List, [], ◌∷◌, Option, Result, Ok, Err, refl, ap, subst, ◌∙◌, true, append_assoc, length-append}
use Rattle.pas_trace.specs.declared.{header.Header.Header, item.Item.Item, reader.Reader.Reader, fault.{TraceFault.TraceFault, ReadFault.ReadFault}}
use Rattle.pas_trace.specs.{declared.{fault.ReadFault.TheVariants.{Trace, NoMemory}, script.Script.Script, stream.Lines.Lines}, Texts.{lines_of, IsWhole}}
use Rattle.pas_trace.specs.{Scripts.{IsScriptOf, IsScripting}, Told.{Tells, AreTaken, IsRead, IsBegun, IsScripted}, Plans.{IsReading, Parsed, parsed}}
use Rattle.pas_trace.specs.{Plans.{parsed_lines, with_header, with_items, items_from}, Streams.{HasReadText, AreLinesOf, AreLinesAfter}}
use Rattle.pas_trace.proofs.{LexedLines.{items-more, items-fault}, Gathering.text-scripted}
use Rattle.pas_trace.specs.declared.stream.Lines.TheVariants as kind

-- ---- what a text comes to, from what the lines that are left come to
module _ (P : List ℕ → Result Parsed TraceFault) (r : Reader) (items : List Item) (xs : List (List ℕ)) (tells : Tells r items)
    (goes : (rest : List ℕ) → P rest ≡ with_items r.header (items_from r.header (r.line + 1) items (xs ++ lines_of rest))) where
  -- after lines that were taken
  goes-on : (new : Reader) (t : AreTaken r items xs new (Ok tt)) (rest : List ℕ)
      → P rest ≡ with_items new.header (items_from new.header (new.line + 1) t.0 (lines_of rest))
  goes-on new t rest =
      search (arith, items-more)

  -- .. of which one has a fault
  goes-wrong : (fault : TraceFault) → items_from r.header (r.line + 1) items xs ≡ Err fault → (rest : List ℕ) → P rest ≡ Err fault
  goes-wrong fault e rest = goes rest ∙ ap (with_items r.header) (items-fault r.header (r.line + 1) items xs (lines_of rest) fault e)

-- ---- the first lines of a text
with-fault : (h : Header) (read : Result (List Item) TraceFault) (fault : TraceFault) → with_items h read ≡ Err fault → read ≡ Err fault
with-fault h read fault e = search arith

header-fault : (h : Option Header) (lines more : List (List ℕ)) (fault : TraceFault) → with_header h lines ≡ Err fault
    → with_header h (lines ++ more) ≡ Err fault
header-fault h lines more fault e = search (arith, items-fault, with-fault)

lines-wrong : (lines more : List (List ℕ)) (fault : TraceFault) → lines ≢ [] → parsed_lines lines ≡ Err fault → parsed_lines (lines ++ more) ≡ Err fault
lines-wrong [] more fault some e = absurd (some refl)
lines-wrong (line ∷ lines) more fault some e = header-fault _ lines more fault e

-- A text of whole lines with a fault has it whatever follows.
pub faulty-front : (text : List ℕ) (fault : ReadFault) → IsWhole text → lines_of text ≢ [] → IsReading text (Err fault) → AreLinesOf text (kind.Faulty fault)
faulty-front text NoMemory whole some e rest = tt
faulty-front text (Trace fault) whole some e rest = ap parsed_lines (whole rest) ∙ lines-wrong (lines_of text) (lines_of rest) fault some e

begun-goes : (text : List ℕ) (r : Reader) (left : List ℕ) → IsWhole text → IsBegun true text r left → (rest : List ℕ)
    → parsed (text ++ rest) ≡ with_items r.header (items_from r.header (r.line + 1) [] (lines_of left ++ lines_of rest))
begun-goes text r left whole b rest =
    cc (whole rest)

-- The lines after the header are the lines of the text.
pub begun-lines : (text : List ℕ) (r : Reader) (left : List ℕ) (lines : Lines) → IsWhole text → IsBegun true text r left → AreLinesAfter r left lines
    → AreLinesOf text lines
begun-lines text r left (kind.Unread alloc) whole b after = absurd after
begun-lines text r left (kind.Read new) whole b after =
    let t = after.0 [] b.tells in
    record {
      items = t.0;
      tells = t.2;
      scripting = t.4 ∙ b.gathers;
      few = omega (arith, after.1, b.shorter, b.tells.line);
      goes = goes-on (λ rest. parsed (text ++ rest)) r [] (lines_of left) b.tells (begun-goes text r left whole b) new t;
    }
begun-lines text r left (kind.Faulty NoMemory) whole b after = λ rest. tt
begun-lines text r left (kind.Faulty (Trace fault)) whole b after =
    goes-wrong (λ rest. parsed (text ++ rest)) r [] (lines_of left) b.tells (begun-goes text r left whole b) fault (after [] b.tells)

-- ---- the lines after those that were read
-- What is said of a fault is said of no reader after it.
pub read-no-more : (r new : Reader) (items : List Item) (text : List ℕ) (fault : ReadFault) → IsRead r items text new (Err fault)
    → IsRead r items text r (Err fault)
read-no-more r new items text fault h = search arith

more-goes : (before text : List ℕ) (r : Reader) (h : HasReadText before r) → IsWhole text → (rest : List ℕ)
    → parsed ((before ++ text) ++ rest) ≡ with_items r.header (items_from r.header (r.line + 1) h.items (lines_of text ++ lines_of rest))
more-goes before text r h whole rest =
    simp (append_assoc, h.goes, whole)

-- The lines of a text that follows one that was read are those of both.
pub more-lines : (before text : List ℕ) (r : Reader) (lines : Lines) → IsWhole text → HasReadText before r → AreLinesAfter r text lines
    → AreLinesOf (before ++ text) lines
more-lines before text r (kind.Unread alloc) whole h after = absurd after
more-lines before text r (kind.Read new) whole h after =
    let t = after.0 h.items h.tells in
    record {
      items = t.0;
      tells = t.2;
      scripting = t.4 ∙ h.scripting;
      few = omega (arith, after.1, h.few, length-append before text);
      goes = goes-on (λ rest. parsed ((before ++ text) ++ rest)) r h.items (lines_of text) h.tells (more-goes before text r h whole) new t;
    }
more-lines before text r (kind.Faulty NoMemory) whole h after = λ rest. tt
more-lines before text r (kind.Faulty (Trace fault)) whole h after =
    goes-wrong (λ rest. parsed ((before ++ text) ++ rest)) r h.items (lines_of text) h.tells (more-goes before text r h whole) fault (after h.items h.tells)

-- ---- the rest of a text
-- A text whose rest was read without a fault has the script of its items.
pub rest-scripted : (before rest : List ℕ) (r new : Reader) (script : Script) (h : HasReadText before r) (t : IsRead r h.items rest new (Ok tt))
    → IsScripted new.header t.0 script → IsScriptOf (before ++ rest) script
rest-scripted before rest r new script h t made =
    text-scripted (before ++ rest) r.header t.0 script (h.goes rest ∙ ap (with_items r.header) t.1) (subst (λ (f : Header). IsScripted f t.0 script) t.3 made)

-- .. which may want memory
pub rest-failed : (before rest : List ℕ) (r new : Reader) (fault : ReadFault) (h : HasReadText before r) → IsRead r h.items rest new (Err fault)
    → IsScripting (before ++ rest) (Err fault)
rest-failed before rest r new fault h e = search arith

-- ---- the bytes that come next
