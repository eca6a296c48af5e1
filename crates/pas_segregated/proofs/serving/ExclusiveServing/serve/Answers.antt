use Rattle.std.proofs.lemmas.Bool.{MatchBool-at_true, MatchBool-at_false}
use Rattle.pas_bits.specs.Masks.{is_set, IsEmpty, HasMember}
use Rattle.pas_segregated.{specs.Takes.{in_starts, exclusive}, proofs.GivenUp.{class_of, prepared, leaves_slots, some_grain, keeps_slots}}
use Rattle.pas_search.proofs.{ForBackEnds.room_kept, Pages.{quiet_by, can_leave, can_back}}
use Rattle.pas_segregated.proofs.serving.ExclusiveServing.serve.Goals as goal

pub leave-requires-clause-can : goal.leave-requires-clause-can
leave-requires-clause-can g c = let class = c.args.self.now.class in let d = c.args.directory in let starts = c.take_slots-starts.result in let t = c.take_slots-starts.ensures.takes in
    can_leave (exclusive class) c.args.page d (is_set t.answers) (in_starts class starts) (prepared class c.args.page d (class_of class d c.requires.directory.kind c.requires.suits) starts t) c.requires.can

pub returns-then-is_empty-clause-serves : goal.returns-then-is_empty-clause-serves
returns-then-is_empty-clause-serves g c = let class = c.args.self.now.class in let d = c.args.directory in let starts = c.take_slots-starts.result in
    leaves_slots class c.args.page d (class_of class d c.requires.directory.kind c.requires.suits) starts c.take_slots-starts.ensures.takes
    (MatchBool-at_true (IsEmpty starts) (HasMember starts) c.if-is_empty.true c.is_empty.ensures) c.leave.ensures.leaves

pub back-requires-clause-can : goal.back-requires-clause-can
back-requires-clause-can g c = let class = c.args.self.now.class in let page = c.args.page in let d = c.args.directory in let starts =
    c.take_slots-starts.result in let t = c.take_slots-starts.ensures.takes in let is = class_of class d c.requires.directory.kind c.requires.suits in
    can_back (exclusive class) page d (is_set t.answers) (in_starts class starts) (prepared class page d is starts t) (some_grain class page d is starts t
    (MatchBool-at_false (IsEmpty starts) (HasMember starts) c.if-is_empty.false c.is_empty.ensures)) c.requires.can c.requires.page

pub back-requires-clause-room : goal.back-requires-clause-room
back-requires-clause-room g c = let t = c.take_slots-starts.ensures.takes in room_kept 1 t.calls.adds c.requires.can (quiet_by t.steps t.kinds)
    (g.met.D.Desk.spares c.args.desk.now) (g.met.D.Desk.spares c.take_slots-starts.new.desk) c.requires.room

pub returns-clause-serves : goal.returns-clause-serves
returns-clause-serves g c = let class = c.args.self.now.class in let d = c.args.directory in let starts = c.take_slots-starts.result in
    keeps_slots class c.args.page d (class_of class d c.requires.directory.kind c.requires.suits) starts c.take_slots-starts.ensures.takes
    (MatchBool-at_false (IsEmpty starts) (HasMember starts) c.if-is_empty.false c.is_empty.ensures) c.back.result c.back.ensures.makes
