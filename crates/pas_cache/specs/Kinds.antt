-- What the calls of a cache may do, by kinds of steps.
use Rattle.std.specs.Prelude.{◌∷◌}
use Rattle.pas_steps.specs.Kinds.{Kinds, Putting, Giving, returning}
use Rattle.pas_search.specs.Kinds.{searching}

-- what gives back: puts, and what follows them and a leave
abbrev pub releasing : Kinds
releasing = Putting ∷ returning

-- what a request does besides: a block is given
abbrev pub allocating : Kinds
allocating = Giving ∷ searching
