-- What the reader's tables hold after each step.
use Rattle.std.proofs.Common.{◌≡◌, ℕ, zero, suc, ◌<◌, ◌==◌, true, if◌then◌else◌, List, [], ◌∷◌, ◌++◌, length, map, get_or, set, Some, refl, sym, ap, ◌∙◌}
use Rattle.std.proofs.{Common.{get_or-set_same, get_or-set_other, eq-eqb, ne_eqb, ◌+◌, Bool, arith, Result, Ok, Err, MatchResult}, lemmas.Bool.cases_eq}
use Rattle.std.{proofs.lemmas.List.{map-append, get_or_append_left, get_or_at, length-map}, specs.Global.Vec}
use Rattle.pas_trace.specs.{Codes.{unlined, is_rare, IsPlaced, said_by, no_code}, Plans.{add_last, ops_of, parsed, IsReading}, Scripts.without_lines}
use Rattle.pas_trace.specs.{Scripts.{coded_ops, IsScriptFor, IsScriptOf, IsScripting}, Gathering.{scripted_phases, Gathers}, declared.gathered.Coded.Coded}
use Rattle.pas_trace.specs.declared.{gathered.Gathered.Gathered, plan.{Op.Op, Phase.Phase, Plan.Plan}, code.Code.Code, header.Header.Header}
use Rattle.pas_trace.specs.declared.{fault.ReadFault.{ReadFault, TheVariants.NoMemory}, item.Item.Item, reader.Reader.Reader, script.CodedPhase.CodedPhase}
use Rattle.pas_trace.{specs.{declared.script.Script.Script, Told.{Tells, IsRead, IsBegun, IsPlanned, IsScripted}}, proofs.LexedLines.{read-planned, plan-read}}
use Rattle.pas_trace.specs.declared.gathered.Gathered.TheVariants as kind

-- an operation goes to the end of the last phase
pub add_last-end : (ps : List (List Op)) (p : List Op) (op : Op) → add_last (Some op) (ps ++ p ∷ []) ≡ ps ++ (p ++ op ∷ []) ∷ []
add_last-end [] p op = refl
add_last-end (q ∷ []) p op = refl
add_last-end (q ∷ r ∷ ps) p op = ap (λ xs. q ∷ xs) (add_last-end (r ∷ ps) p op)

-- .. and so it does without its line
add_last-unlined : (phases : List (List Op)) (op : Op) → without_lines (add_last (Some op) phases) ≡ add_last (Some (unlined op)) (without_lines phases)
add_last-unlined [] op = refl
add_last-unlined (p ∷ []) op = ap (λ ops. ops ∷ []) (map-append unlined p (op ∷ []))
add_last-unlined (p ∷ q ∷ phases) op = ap (λ rest. map unlined p ∷ rest) (add_last-unlined (q ∷ phases) op)

-- A script that has gathered an operation without its line has gathered it.
pub coded-added : (op : Op) (old : Gathered) (was now : Coded) → old ≡ kind.Coded was
    → scripted_phases now ≡ add_last (Some (unlined op)) (scripted_phases was) → Gathers (add_last (Some op)) old (kind.Coded now)
coded-added op old was now is e = search (arith, add_last-unlined)

-- one more default at the end changes no place
pub get_or-more : {X : Type 0} (xs : List X) (d : X) (n : ℕ) → get_or (xs ++ d ∷ []) n d ≡ get_or xs n d
get_or-more [] d zero = refl
get_or-more [] d (suc n) = refl
get_or-more (x ∷ xs) d zero = refl
get_or-more (x ∷ xs) d (suc n) = get_or-more xs d n

-- what a write changes
pub get_or-written : {X : Type 0} (xs : List X) (i n : ℕ) (x d : X) → i < length xs → get_or (set xs i x) n d ≡ (if n == i then x else get_or xs n d)
get_or-written xs i n x d lt = search (arith, cases_eq, eq-eqb, get_or-set_same, ne_eqb, get_or-set_other)

-- ==== Codes beside a list of whole operations.

-- each code of the list that is a place is one of so many
abbrev pub ArePlaced : ℕ → List Code → Type 0
ArePlaced count codes = (k : ℕ) → IsPlaced count (get_or codes k no_code)

said-here : (rare : List Op) (op : Op) (code : Code) (here : Bool) → is_rare code ≡ here → IsPlaced (length rare) code
    → said_by (rare ++ op ∷ []) code ≡ said_by rare code
said-here rare op code a is placed = search (arith, get_or_append_left)

-- Codes that are placed stand for the same beside one operation more.
said-more : (rare : List Op) (op : Op) (codes : List Code) → ArePlaced (length rare) codes
    → map (said_by (rare ++ op ∷ [])) codes ≡ map (said_by rare) codes
said-more rare op [] all = refl
said-more rare op (c ∷ codes) all = ap (λ o. o ∷ map (said_by (rare ++ op ∷ [])) codes) (said-here rare op c _ refl (all zero))
    ∙ ap (λ ops. said_by rare c ∷ ops) (said-more rare op codes (λ k. all (suc k)))

-- .. and the others stand for what they stood for.
pub rare-added : (codes : List Code) (rare now : List Op) (op : Op) (code : Code) → ArePlaced (length rare) codes → now ≡ rare ++ op ∷ [] → is_rare code ≡ true
    → code.tail ≡ length rare → map (said_by now) codes ++ said_by now code ∷ [] ≡ map (said_by rare) codes ++ unlined op ∷ []
rare-added codes rare now op code all e is last = search (arith, said-more, get_or_at)

-- ==== The plan that a script is of.

-- a vector of the same length, with other items
abbrev like : {X Y : Type 0} (v : Vec X) (ys : List Y) → length ys ≡ length v.items → Vec Y
like v ys e = record { ptr = v.ptr; len = v.len; cap = v.cap; alloc = v.alloc; items = ys; ok = (v.ok.0 ∙ sym e, v.ok.1); small = v.small }

-- whole phases of which these are the codes
record WholePhases (coded : List CodedPhase) (ops : List (List Op)) : Type 0 where
  phases : List Phase
  are : map ops_of phases ≡ ops
  many : length phases ≡ length coded

abbrev one-whole : (p : CodedPhase) (ops : List Op) → coded_ops p ≡ map unlined ops → Phase
one-whole p ops e =
    let many : length ops ≡ length p.codes.items = sym (length-map ops unlined) ∙ ap length (sym e) ∙ length-map p.codes.items (said_by p.rare.items) in
    record { ops = like p.codes ops many }

whole-phases : (coded : List CodedPhase) (ops : List (List Op)) → map coded_ops coded ≡ without_lines ops → WholePhases coded ops
whole-phases [] [] e = record { phases = []; are = refl; many = refl }
whole-phases [] (o ∷ ops) e = absurd (cc)
whole-phases (p ∷ coded) [] e = absurd (cc)
whole-phases (p ∷ coded) (o ∷ ops) e =
    let first : coded_ops p ≡ map unlined o = cc in
    let rest : map coded_ops coded ≡ without_lines ops = cc in
    let more = whole-phases coded ops rest in
    record { phases = one-whole p o first ∷ more.phases; are = ap (λ os. o ∷ os) more.are; many = ap suc more.many }

-- a plan that the script is of
record PlanFor (header : Header) (items : List Item) (script : Script) : Type 0 where
  plan : Plan
  planned : IsPlanned header items plan
  same : IsScriptFor plan script

plan-for : (header : Header) (items : List Item) (script : Script) → IsScripted header items script → PlanFor header items script
plan-for header items script s =
    let whole = whole-phases _ _ s.phases in
    record {
      plan = record {
        version = script.version;
        profile = script.profile;
        guard = script.guard;
        phases = record { phases = like script.phases.phases whole.phases whole.many };
        bounds = script.bounds;
        total = script.total;
        names_limit = script.names_limit;
      };
      planned = record { outline = s.outline; phases = whole.are };
      same = record { version = refl; profile = refl; guard = refl; phases = s.phases ∙ ap without_lines (sym whole.are); bounds = refl; total = refl; names = refl };
    }

-- A text that was read without a fault has the script of its items.
pub read-scripted : (for_script : Bool) (text rest : List ℕ) (r new : Reader) (script : Script) → IsBegun for_script text r rest
    → (h : IsRead r [] rest new (Ok tt))
    → IsScripted new.header h.0 script → IsScriptOf text script
read-scripted for_script text rest r new script b h made =
    let p = plan-for new.header h.0 script made in
    record { plan = p.plan; read = read-planned for_script text rest r new p.plan b h p.planned; same = p.same }

-- A text whose items and header are these has the script that is made of them.
pub text-scripted : (text : List ℕ) (f : Header) (all : List Item) (script : Script) → parsed text ≡ Ok (record { header = f; items = all })
    → IsScripted f all script → IsScriptOf text script
text-scripted text f all script read made =
    let p = plan-for f all script made in record { plan = p.plan; read = plan-read text f all p.plan read p.planned; same = p.same }

-- .. which may want memory
pub scripted-reading : (text : List ℕ) (reader : Reader) (result : Result Script ReadFault)
    → ((script : Script) → ((items : List Item) → Tells reader items → IsScripted reader.header items script) → IsScriptOf text script)
    → MatchResult result (λ script. (items : List Item) → Tells reader items → IsScripted reader.header items script) (λ fault. fault ≡ NoMemory)
    → IsScripting text result
scripted-reading text reader a is h = search arith

-- A script has the faults of a plan.
pub same-fault : (text : List ℕ) (fault : ReadFault) → IsReading text (Err fault) → IsScripting text (Err fault)
same-fault text fault h = search arith
