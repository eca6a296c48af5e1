use Rattle.std.proofs.Common.{◌∙◌, subst}
use Rattle.pas_cache.proofs.Routes.{whole_pages, pages_call, pages_allocates}
use Rattle.pas_cache.proofs.cache.ThreadCache.alloc_large.Goals as goal

pub alloc-requires-clause-can : goal.alloc-requires-clause-can
alloc-requires-clause-can g c = pages_call c.args.heap (c.div_ceil.ensures ∙ whole_pages c.args.size) c.requires.can

pub returns-clause-allocates : goal.returns-clause-allocates
returns-clause-allocates g c = let a = c.alloc.ensures.allocates in let is = c.div_ceil.ensures ∙ whole_pages _ in (
  a.0,
  subst (λ n. g.O.Door.answers c.args.door.now c.alloc.new.door c.args.heap n a.0) is a.1,
  λ align alignment route. pages_allocates _ align _ _ a.0 g.D.Desk.tells _ _ is c.requires.size alignment route a.2,
)
