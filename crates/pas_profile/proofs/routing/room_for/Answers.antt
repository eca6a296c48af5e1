use Rattle.std.proofs.Common.{◌∙◌, sym, arith}
use Rattle.pas_profile.proofs.{Sizes.{class_suits, class_known}, Requests.room_routed}
use Rattle.pas_profile.proofs.routing.room_for.Goals as goal

pub class_size-requires : goal.class_size-requires
class_size-requires c = class_known c.args.classes c.args.size c.args.align c.in-Class.class (class_suits c.args.classes c.args.size c.args.align c.in-Class.class (cc))

pub returns-in-Class : goal.returns-in-Class
returns-in-Class c = c.class_size.ensures ∙ room_routed c.args.classes c.args.size c.args.align _ (sym c.in-Class.ensures)

pub returns-in-Bitfit : goal.returns-in-Bitfit
returns-in-Bitfit c = omega (arith, c.div_ceil.ensures, c.max-least.ensures) ∙ room_routed c.args.classes c.args.size c.args.align _ (sym c.in-Bitfit.ensures)

pub returns-in-Large : goal.returns-in-Large
returns-in-Large c = search (arith, room_routed)
