use Rattle.std.proofs.Common.{◌++◌, ◌∙◌, List, ℕ, ap, codes}
use Rattle.pas_telling.proofs.Adding.{one_more, counted}
use Rattle.pas_telling.proofs.summary.summary_of.Goals as goal

pub returns : goal.returns
returns c =
    let x = c.push_str.new.self.bytes in
    let h9 = c.push_str.ensures.bytes ∙ ap (λ (s : List ℕ). c.push_line-8.new.text.bytes ++ s) (c.as_str.ensures.value ∙ c.total_line.ensures) in
    let h8 = counted c.push_line-7.new.text.bytes c.push_line-8.new.text.bytes (codes "skipped ") _ x c.count-7.result _ c.push_line-8.ensures.bytes c.count-7.ensures h9 in
    let h7 = counted c.push_line-6.new.text.bytes c.push_line-7.new.text.bytes (codes "held ") _ x c.count-6.result _ c.push_line-7.ensures.bytes c.count-6.ensures h8 in
    let h6 = counted c.push_line-5.new.text.bytes c.push_line-6.new.text.bytes (codes "no-space ") _ x c.count-5.result _ c.push_line-6.ensures.bytes c.count-5.ensures h7 in
    let h5 = counted c.push_line-4.new.text.bytes c.push_line-5.new.text.bytes (codes "no-block ") _ x c.count-4.result _ c.push_line-5.ensures.bytes c.count-4.ensures h6 in
    let h4 = counted c.push_line-3.new.text.bytes c.push_line-4.new.text.bytes (codes "ended ") _ x c.count-3.result _ c.push_line-4.ensures.bytes c.count-3.ensures h5 in
    let h3 = counted c.push_line-2.new.text.bytes c.push_line-3.new.text.bytes (codes "freed ") _ x c.count-2.result _ c.push_line-3.ensures.bytes c.count-2.ensures h4 in
    let h2 = counted c.push_line.new.text.bytes c.push_line-2.new.text.bytes (codes "give ") _ x c.count.result _ c.push_line-2.ensures.bytes c.count.ensures h3 in
    let h1 = one_more c.new-text.result.bytes c.push_line.new.text.bytes _ _ x c.push_line.ensures.bytes h2 in
    rw c.new-text.ensures at h1
