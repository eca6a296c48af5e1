use Rattle.std.proofs.Common.{refl, sym, ◌∙◌}
use Rattle.pas_steps.proofs.Adding.{can_step}
use Rattle.pas_free_log.proofs.OneEntry.{looked, ended_run, ends_by_room, room_end, some_room, refused_by_room}
use Rattle.pas_free_log.proofs.ending.end_by_room.Goals as goal

pub end_sized-read-requires-clause-can : goal.end_sized-read-requires-clause-can
end_sized-read-requires-clause-can g c = can_step (looked c.args.entry.name _ c.look-deed.ensures.makes) c.requires.can (room_end _ _ c.requires.entry c.requires.sized) (λ v l stood met. met)

pub returns-then-read-life_word-clause-ends : goal.returns-then-read-life_word-clause-ends
returns-then-read-life_word-clause-ends g c =
    let live = c.if-read-life_word.true ∙ c.life_word.ensures in
    ends_by_room _ _ _ _ _ c.requires.sized c.read_deed-directory.ensures (looked c.args.entry.name _ c.look-deed.ensures.makes) c.end_sized-read.ensures.makes c.requires.can
    (λ v agrees. ((live, refl), ended_run (g.D.Desk.standing c.args.desk.now).seat.profile _ _ _ _ (some_room _ _ c.requires.entry c.requires.sized) live agrees))

pub returns-else-read-life_word-clause-ends : goal.returns-else-read-life_word-clause-ends
returns-else-read-life_word-clause-ends g c = ends_by_room _ _ _ _ _ c.requires.sized c.read_deed-directory.ensures
    (looked c.args.entry.name _ c.look-deed.ensures.makes) c.end_sized-read.ensures.makes c.requires.can
    (λ v agrees. (refused_by_room _ _ c.requires.sized (λ e. c.if-read-life_word.false (e ∙ sym c.life_word.ensures)), tt))
