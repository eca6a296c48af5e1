use Rattle.std.proofs.Common.{◌≡◌, ◌*◌, ◌/◌, nat_lt, ap, sym, ◌∙◌, arith, le-ltb}
use Rattle.pas_profile.specs.{Blocks.address_of, Entries.entry_of, declared.name.Block.Block}
use Rattle.pas_machine.specs.{Machines.profile_of, State.{gives_in, live_in}}
use Rattle.pas_check.proofs.{OneNext.{block_there, counts, gone, nothing_there}, Stretches.no_ends}
use Rattle.pas_check.proofs.guarding.has_ended.Goals as goal

pub returns-then-not-is_place : goal.returns-then-not-is_place
returns-then-not-is_place c = search (arith, no_ends, le-ltb, c.if-not-is_place.ensures)

pub returns-in-Some : goal.returns-in-Some
returns-in-Some c = λ es stands.
    let a = address_of c.args.name in
    let here : 16 * (a / 16) ≡ a = omega (arith, c.if-not-is_place.ensures.1) in
    let there = block_there (live_in es (16 * (a / 16))) c.in-Some.block (c.in-Some.ensures es stands) in
    let turn = counts (profile_of c.args.machine.now) es stands.run (entry_of c.args.name) there.0 (ap (live_in es) (sym here) ∙ there.1) in
    ap (λ n. nat_lt c.args.name.turn n) (ap (λ (x : Block). x.name.turn) (sym there.2) ∙ turn)

pub returns-in-None : goal.returns-in-None
returns-in-None c = λ es stands.
    let a = address_of c.args.name in
    let here : 16 * (a / 16) ≡ a = omega (arith, c.if-not-is_place.ensures.1) in
    let none = ap (live_in es) (sym here) ∙ nothing_there (live_in es (16 * (a / 16))) (c.in-None.ensures es stands) in
    ap (λ n. nat_lt c.args.name.turn n) (c.gives_at.ensures es stands ∙ ap (gives_in es) here ∙ gone (profile_of c.args.machine.now) es stands.run (entry_of c.args.name) none)
