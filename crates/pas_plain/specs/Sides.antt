-- What a desk stands for that tells of one side only.
use Rattle.pas_steps.specs.{Lists.Whole, Desks.Standing}

-- the views for which the desk stands beside some list, now beside any list
abbrev pub one_side : Standing → Standing
one_side inner = record { seat = inner.seat; stands = λ v l. (w : Whole) × inner.stands v w }
