-- The lines that are read, and those that are left.
use Rattle.std.proofs.Common.{arith, ◌≡◌, ℕ, ◌+◌, Bool, List, [], ◌∷◌, Some, Result, Ok, Err, MatchResult, refl, sym, ap, subst, ◌∙◌, ◌==◌, true, if◌then◌else◌}
use Rattle.std.proofs.{Common.{◌++◌, OnOk, map, length, codes, append_assoc, length-append}, lemmas.List.map-append}
use Rattle.pas_trace.specs.declared.{header.Header.Header, fault.{ReadFault.{ReadFault, TheVariants.NoMemory}, Reason.Reason, TraceFault.TraceFault}}
use Rattle.pas_trace.specs.{declared.{item.Item.{Item, TheVariants.Shares}, plan.Plan.Plan, reader.Reader.Reader}, Texts.{lines_of, words_of}}
use Rattle.pas_trace.specs.{Reasons.{line_says, header_of}, Gathering.is_scripting, FirstLines.FirstSays, Lexed.{Say, AreLexed}, Plans.{parsed, parsed_lines}}
use Rattle.pas_trace.specs.{Plans.{with_header, with_items, items_from, after_item, IsPlanOf, IsReading, line_of_newest}, Told.{Tells, IsTaken, AreTaken}}
use Rattle.pas_trace.specs.{Told.{IsRead, IsBegun, IsPlanned}, Items.{same_bytes, item1, item_by_count, item_of_words, item_of_line, plain}}

-- the answer of the lines that are left is the answer of all
pub record SoFar (old : Reader) (start : List Item) (lines : List (List ℕ)) (now : Reader) (left : List (List ℕ)) : Type 0 where
  pub items : List Item
  pub tells : Tells now items
  pub header : now.header ≡ old.header
  pub scripting : is_scripting now.gathered ≡ is_scripting old.gathered
  pub same : items_from old.header (old.line + 1) start lines ≡ items_from old.header (now.line + 1) items left

abbrev pub at-first : (r : Reader) (start : List Item) (lines : List (List ℕ)) → Tells r start → SoFar r start lines r lines
at-first r start lines t = record { items = start; tells = t; header = refl; scripting = refl; same = refl }

-- After a line was taken, the reader is one line further.
after-taken : (old now new : Reader) (start : List Item) (lines : List (List ℕ)) (line : List ℕ) (left : List (List ℕ))
    (far : SoFar old start lines now (line ∷ left))
    → IsTaken now far.items line new (Ok tt) → SoFar old start lines new left
after-taken old now new start lines line left far t =
    search arith

-- the line with the fault is the first of those that are left
taken-fault : (old now new : Reader) (start : List Item) (lines : List (List ℕ)) (line : List ℕ) (left : List (List ℕ)) (fault : ReadFault)
    (far : SoFar old start lines now (line ∷ left))
    → IsTaken now far.items line new (Err fault) → AreTaken old start lines new (Err fault)
taken-fault old now new start lines line left fault far t = search arith

-- ---- the first line of a text
abbrev pub left-is : (old now : Reader) (start : List Item) (lines left other : List (List ℕ)) → left ≡ other → SoFar old start lines now left
    → SoFar old start lines now other
left-is old now start lines left other e far = record { items = far.items; tells = far.tells; header = far.header; scripting = far.scripting; same = far.same ∙ ap (items_from old.header (now.line + 1) far.items) e }

-- ---- from the text
parsed-items : (text line rest : List ℕ) (f : Header) → lines_of text ≡ line ∷ lines_of rest → header_of line ≡ Some f
    → parsed text ≡ with_items f (items_from f 2 [] (lines_of rest))
parsed-items text line rest f e h = ap parsed_lines e ∙ ap (λ header. with_header header (lines_of rest)) h

-- ---- and to the plan
-- A text whose items and header are these has a plan that is made of them.
pub plan-read : (text : List ℕ) (f : Header) (all : List Item) (plan : Plan) → parsed text ≡ Ok (record { header = f; items = all }) → IsPlanned f all plan
    → IsPlanOf text plan
plan-read text f all plan read p = search arith

from-second : (r : Reader) (rest : List ℕ) → Tells r [] → items_from r.header 2 [] (lines_of rest) ≡ items_from r.header (r.line + 1) [] (lines_of rest)
from-second r rest t = ap (λ n. items_from r.header n [] (lines_of rest)) (sym (ap (λ n. n + 1) t.line))

-- A text that was read without a fault has the plan of its items.
pub read-planned : (for_script : Bool) (text rest : List ℕ) (r new : Reader) (plan : Plan) → IsBegun for_script text r rest → (h : IsRead r [] rest new (Ok tt))
    → IsPlanned new.header h.0 plan → IsPlanOf text plan
read-planned for_script text rest r new plan b h made =
    plan-read text r.header h.0 plan (parsed-items text b.line rest r.header b.cut b.header ∙ ap (with_items r.header) (from-second r rest b.tells ∙ h.1))
    (subst (λ (g : Header). IsPlanned g h.0 plan) h.3 made)

-- A text that was read with a fault has that as its first.
pub read-failed : (for_script : Bool) (text rest : List ℕ) (r new : Reader) (fault : ReadFault) → IsBegun for_script text r rest
    → IsRead r [] rest new (Err fault) → IsReading text (Err fault)
read-failed for_script text rest r new a b h = search (arith, parsed-items, from-second)

-- .. which may want memory
pub planned-reading : (text : List ℕ) (reader : Reader) (result : Result Plan ReadFault)
    → ((plan : Plan) → ((items : List Item) → Tells reader items → IsPlanned reader.header items plan) → IsPlanOf text plan)
    → MatchResult result (λ plan. (items : List Item) → Tells reader items → IsPlanned reader.header items plan) (λ fault. fault ≡ NoMemory)
    → IsReading text result
planned-reading text reader a is h = search arith

-- ==== Lines that say something by themselves, and what is read of them.

-- ---- what a line says after an operation it says anywhere
shared-anywhere : (is : Bool) (started : Bool) (shares other : Result Item Reason) (item : Item)
    → (if is then (if true then Err Reason.BadWord else shares) else other) ≡ Ok item
    → (if is then (if started then Err Reason.BadWord else shares) else other) ≡ Ok item
shared-anywhere is started shares other item e = search arith

count-anywhere : (started : Bool) (w : List ℕ) (more : List (List ℕ)) (item : Item) → item_by_count true w more ≡ Ok item
    → item_by_count started w more ≡ Ok item
count-anywhere started w [] item e = e
count-anywhere started w (a ∷ []) item e = shared-anywhere (same_bytes w (codes "shared")) started (item1 Shares (plain a)) _ item e
count-anywhere started w (a ∷ b ∷ []) item e = e
count-anywhere started w (a ∷ b ∷ c ∷ []) item e = e
count-anywhere started w (a ∷ b ∷ c ∷ d ∷ []) item e = e
count-anywhere started w (a ∷ b ∷ c ∷ d ∷ f ∷ []) item e = e
count-anywhere started w (a ∷ b ∷ c ∷ d ∷ f ∷ g ∷ more) item e = e

since-anywhere : (is : Bool) (one other : Result Item Reason) (why : Reason) (item : Item) → (one ≡ Ok item → other ≡ Ok item)
    → (if is then one else Err why) ≡ Ok item → (if is then other else Err why) ≡ Ok item
since-anywhere is one other why item h e = search arith

comment-anywhere : (is : Bool) (blank one other : Result Item Reason) (item : Item) → (one ≡ Ok item → other ≡ Ok item) → (if is then blank else one) ≡ Ok item
    → (if is then blank else other) ≡ Ok item
comment-anywhere is blank one other item h e = search arith

-- A line that says an item after the first operation says it before, too.
pub says-anywhere : (version : ℕ) (started : Bool) (line : List ℕ) (item : Item) → item_of_line version true line ≡ Ok item
    → item_of_line version started line ≡ Ok item
says-anywhere version started [] item e = e
says-anywhere version started (b ∷ bs) item e = comment-anywhere (b == 35) _ (item_of_words version true (words_of (b ∷ bs)))
    (item_of_words version started (words_of (b ∷ bs))) item (λ e. search (arith, since-anywhere, count-anywhere)) e

-- ---- lines are taken apart, one after another
-- readers of one header lex alike
pub lexed-now : (old now : Reader) (text : List ℕ) (items others : List Item) (left : List ℕ) → now.header ≡ old.header → items ≡ others
    → AreLexed old.header.version text items left
    → AreLexed now.header.version text others left
lexed-now old now text items others left same is lexed =
    subst (λ (h : Header). AreLexed h.version text others left) (sym same) (subst (λ (xs : List Item). AreLexed old.header.version text xs left) is lexed)

-- A text whose next line says an item by itself is read one line further.
pub lexed-more : (version : ℕ) (text left after : List ℕ) (items : List Item) (item : Item) → AreLexed version text items left
    → FirstSays version left item after → AreLexed version text (items ++ item ∷ []) after
lexed-more version text left after items item h f = record {
  lines = h.lines ++ f.line ∷ [];
  cut = h.cut ∙ ap (λ ls. h.lines ++ ls) f.cut ∙ sym (append_assoc h.lines (f.line ∷ []) _);
  say = λ started. map-append _ h.lines (f.line ∷ []) ∙ ap (λ rs. rs ++ item_of_line version started f.line ∷ []) (h.say started)
      ∙ ap (λ (r : Result Item Reason). map Ok items ++ r ∷ []) (f.says started) ∙ sym (map-append Ok items _);
  few = omega (arith, length-append items (item ∷ []), h.few, f.shorter);
}

-- ---- what lines say is taken, one after another
-- the lines that are left say these items, and their answer is that of all
pub record Further (old : Reader) (start : List Item) (lines : List (List ℕ)) (now : Reader) (items : List Item) : Type 0 where
  pub left : List (List ℕ)
  pub far : SoFar old start lines now left
  pub say : Say old.header.version left items

record FirstOf (version : ℕ) (left : List (List ℕ)) (item : Item) (items : List Item) : Type 0 where
  line : List ℕ
  rest : List (List ℕ)
  is : left ≡ line ∷ rest
  says : (started : Bool) → item_of_line version started line ≡ Ok item
  say : Say version rest items

first-of : (version : ℕ) (left : List (List ℕ)) (item : Item) (items : List Item) → Say version left (item ∷ items) → FirstOf version left item items
first-of version [] item items say = let e = say true in absurd (cc)
first-of version (line ∷ rest) item items say =
    record { line = line; rest = rest; is = refl; says = λ started. let e = say started in cc; say = λ started. let e = say started in cc }

-- the item was taken, or has this fault, whichever line it stands on
abbrev pub Takes : Reader → Item → Reader → Result (Unit {0}) ReadFault → Type 0
Takes now item new result =
    (told : List Item) (line : List ℕ) → Tells now told → item_of_line now.header.version now.started line ≡ Ok item → IsTaken now told line new result

said-now : (old now : Reader) → now.header ≡ old.header → (line : List ℕ) (item : Item) → item_of_line old.header.version now.started line ≡ Ok item
    → item_of_line now.header.version now.started line ≡ Ok item
said-now old now same line item says = subst (λ (h : Header). item_of_line h.version now.started line ≡ Ok item) (sym same) says

-- After an item was taken, the reader is one item further.
pub further-more : (old now new : Reader) (start : List Item) (lines : List (List ℕ)) (item : Item) (items : List Item)
    → Further old start lines now (item ∷ items) → Takes now item new (Ok tt) → Further old start lines new items
further-more old now new start lines item items h takes =
    let f = first-of old.header.version h.left item items h.say in
    let far = left-is old now start lines h.left (f.line ∷ f.rest) f.is h.far in
    record { left = f.rest; far = after-taken old now new start lines f.line f.rest far (takes far.items f.line far.tells (said-now old now far.header f.line item (f.says now.started))); say = f.say }

-- An item that was taken makes the reader's line number one more.
pub further-line : (old now new : Reader) (start : List Item) (lines : List (List ℕ)) (item : Item) (items : List Item)
    → Further old start lines now (item ∷ items) → Takes now item new (Ok tt) → new.line ≡ now.line + 1
further-line old now new start lines item items h takes =
    let f = first-of old.header.version h.left item items h.say in
    let t = takes h.far.items f.line h.far.tells (said-now old now h.far.header f.line item (f.says now.started)) in
    t.4

-- An item with a fault ends the taking with that fault.
pub further-fault : (old now new : Reader) (start : List Item) (lines : List (List ℕ)) (item : Item) (items : List Item) (fault : ReadFault)
    → Further old start lines now (item ∷ items) → Takes now item new (Err fault) → AreTaken old start lines new (Err fault)
further-fault old now new start lines item items fault h takes =
    let f = first-of old.header.version h.left item items h.say in
    let far = left-is old now start lines h.left (f.line ∷ f.rest) f.is h.far in
    taken-fault old now new start lines _ _ fault far (takes far.items f.line far.tells (said-now old now far.header f.line item (f.says now.started)))

pub none-left : (version : ℕ) (left : List (List ℕ)) → Say version left [] → left ≡ []
none-left version [] say = refl
none-left version (line ∷ left) say = let e = say true in absurd (cc)

-- ---- lines in front of others
after-more : (n : ℕ) (says : Result Item Reason) (some more : Item → Result (List Item) TraceFault) (all : List Item) (result : Result (List Item) TraceFault)
    → ((i : Item) → some i ≡ Ok all → more i ≡ result) → after_item n says some ≡ Ok all → after_item n says more ≡ result
after-more n says some more all result h e = search arith

-- Lines that are taken without a fault leave the others to be taken.
pub items-more : (f : Header) (told : List Item) (xs ys : List (List ℕ)) (all : List Item) → items_from f (line_of_newest told + 1) told xs ≡ Ok all
    → items_from f (line_of_newest told + 1) told (xs ++ ys) ≡ items_from f (line_of_newest all + 1) all ys
items-more f told [] ys all e = let same : told ≡ all = cc in ap (λ (is : List Item). items_from f (line_of_newest is + 1) is ys) same
items-more f told (x ∷ xs) ys all e = after-more _ _ _ _ all _ (λ i. items-more f (i ∷ told) xs ys all) e

after-fault : (n : ℕ) (says : Result Item Reason) (some more : Item → Result (List Item) TraceFault) (fault : TraceFault)
    → ((i : Item) → some i ≡ Err fault → more i ≡ Err fault) → after_item n says some ≡ Err fault → after_item n says more ≡ Err fault
after-fault n says some more fault h e = search arith

-- A fault is the first one whatever lines follow.
pub items-fault : (f : Header) (n : ℕ) (told : List Item) (xs ys : List (List ℕ)) (fault : TraceFault) → items_from f n told xs ≡ Err fault
    → items_from f n told (xs ++ ys) ≡ Err fault
items-fault f n told [] ys fault e = absurd (cc)
items-fault f n told (x ∷ xs) ys fault e = after-fault n (line_says f told x) _ _ fault (λ i. items-fault f (n + 1) (i ∷ told) xs ys fault) e

-- After more lines were taken, the reader is these further.
pub after-lines : (old now new : Reader) (start : List Item) (lines xs ys : List (List ℕ)) (far : SoFar old start lines now (xs ++ ys))
    → AreTaken now far.items xs new (Ok tt) → SoFar old start lines new ys
after-lines old now new start lines xs ys far t =
    search (arith, items-more)

-- .. and those that are left
pub all-read : (old now new : Reader) (start : List Item) (lines left : List (List ℕ)) (result : Result (Unit {0}) ReadFault)
    (far : SoFar old start lines now left)
    → AreTaken now far.items left new result → AreTaken old start lines new result
all-read old now new start lines left a far t = search arith

-- ---- a text of which some lines were taken apart
pub lexed-far : (old now : Reader) (start : List Item) (text : List ℕ) (items : List Item) (left : List ℕ)
    → (lexed : AreLexed old.header.version text items left) → Tells old start → AreTaken old start lexed.lines now (Ok tt)
    → SoFar old start (lines_of text) now (lines_of left)
lexed-far old now start text items left lexed t taken = after-lines old old now start _ lexed.lines _
    (left-is old old start (lines_of text) (lines_of text) (lexed.lines ++ lines_of left) lexed.cut (at-first old start (lines_of text) t)) taken

-- A text whose first lines have a fault is read with that fault.
pub lexed-fault : (old new : Reader) (start : List Item) (text : List ℕ) (items : List Item) (left : List ℕ) (fault : ReadFault)
    → (lexed : AreLexed old.header.version text items left) → Tells old start
    → AreTaken old start lexed.lines new (Err fault) → IsRead old start text new (Err fault)
lexed-fault old new start text items left fault lexed t taken = search (arith, items-fault)

-- ---- results and lists
pub at-ok : (result : Result (Unit {0}) ReadFault) (P : Type 0) → OnOk result P → result ≡ Ok tt → P
at-ok result P h e = search arith

-- A list of length 0 is empty.
pub none-of : (xs : List ℕ) → length xs ≡ 0 → xs ≡ []
none-of [] e = refl
none-of (x ∷ xs) e = absurd (omega arith)
