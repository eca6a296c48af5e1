use Rattle.std.proofs.{Common.{◌%◌, max, sym, ◌∙◌, arith, leb, eqb, le-leb, ne_eqb}, lemmas.Bool.{and_from, and_right}}
use Rattle.pas_profile.{specs.Classes.class_size, proofs.Sizes.{count_le, begins_at, found_at, passed_at, class_size_whole, none_above, after_all, route_found}}
use Rattle.pas_profile.proofs.{Sizes.large_for, routing.route.Goals.else-grains-lt65}
use Rattle.pas_profile.proofs.routing.route.Goals as goal

pub loop-class-init : goal.loop-class-init
loop-class-init c =
    let b = begins_at c.args.classes c.args.size c.args.align c.div_ceil-grains.result c.if-grains-lt65.true (omega (arith, c.div_ceil-grains.ensures)) (omega (arith, c.div_ceil-grains.ensures)) in
    record { rest = b.rest; large = b.large }

pub returns-then-is_multiple : goal.returns-then-is_multiple
returns-then-is_multiple c =
    let class = c.loop-class.class in
    let size = max c.args.size 1 in
    let block = class_size class in
    let few = count_le c.args.classes c.requires.classes in
    let room = le-leb size block (c.loop-class.invariant.large class (omega arith) (omega (arith, few))) in
    let aligned = sym c.is_multiple.ensures ∙ c.if-is_multiple.true in
    let suits = and_from (leb size block) (eqb (block % c.args.align) 0) room aligned in
    route_found c.args.classes c.args.size c.args.align class (cc (found_at c.args.classes class size c.args.align few c.loop-class-test.true suits))

pub is_multiple-requires-clause-whole : goal.is_multiple-requires-clause-whole
is_multiple-requires-clause-whole c = let few = count_le c.args.classes c.requires.classes in class_size_whole c.loop-class.class (omega (arith, few, c.loop-class-test.true))

pub loop-class-preserved : goal.loop-class-preserved
loop-class-preserved c =
    search (arith, ne_eqb, and_right, leb, eqb, passed_at)

pub returns-then-size-le-MOST_BITFIT : goal.returns-then-size-le-MOST_BITFIT
returns-then-size-le-MOST_BITFIT c = search (arith, le-leb, after_all, else-grains-lt65, none_above)

pub returns-else-size-le-MOST_BITFIT : goal.returns-else-size-le-MOST_BITFIT
returns-else-size-le-MOST_BITFIT c = large_for c.args.classes c.args.size c.args.align c.if-size-le-MOST_BITFIT.false
