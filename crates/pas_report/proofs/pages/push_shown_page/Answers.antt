use Rattle.std.{proofs.Common.{ℕ, List, ◌++◌, codes, ap, ◌∙◌}, specs.Fmt.decimal}
use Rattle.pas_records.{specs.{Lines.kind_text, Marks.{marks_of, marks_text}}, proofs.Texts.{then_piece, then_field}}
use Rattle.pas_report.proofs.pages.push_shown_page.Goals as goal

pub returns : goal.returns
returns g c =
    let names = c.names_of.ensures.text in
    then_field _ _ _ (codes "page ") (decimal c.args.page) _ c.push_field.ensures.bytes
    (then_field _ _ _ (codes " heap ") (decimal c.args.directory.heap) _ c.push_field-2.ensures.bytes
    (then_piece _ _ _ (codes " ") _ c.push_str.ensures.bytes
    (then_piece _ _ _ (kind_text c.args.directory.kind) _ c.push_kind.ensures.bytes
    (then_field _ _ _ (codes " live ") (decimal c.args.live) _ c.push_field-3.ensures.bytes
    (then_field _ _ _ (codes " free ") (decimal c.args.free) _ c.push_field-4.ensures.bytes
    (then_field _ _ _ (codes " stamp ") (decimal c.args.stamp) _ c.push_field-5.ensures.bytes
    (then_piece _ _ _ (codes " marks ") _ c.push_str-2.ensures.bytes
    (then_piece _ _ _ (marks_text (marks_of c.args.marks.0)) (codes "\n") (c.push_str-3.ensures.bytes ∙ ap (λ (t : List ℕ). c.push_str-2.new.self.bytes ++ t) names) c.push_str-4.ensures.bytes))))))))
