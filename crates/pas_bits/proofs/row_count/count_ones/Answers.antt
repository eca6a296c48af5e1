use Rattle.std.proofs.{Common.{◌≡◌, ◌+◌, length, refl, sym, ◌∙◌, ap, arith, w64}, lemmas.Simd.{adds_fit, fold-sum, length-zip2, sum-zip2, sum_fits}}
use Rattle.std.specs.Simd.Lanes.{chunk, sum_l}
use Rattle.pas_bits.proofs.Rows.{before_most, count_before, group_more, lane_counts, length_counts, none_before, whole_before, word_more}
use Rattle.pas_bits.proofs.row_count.count_ones.Goals as goal

pub loop-start-init : goal.loop-start-init
loop-start-init c = (omega arith, refl, sym (none_before c.args.words.now))

pub overflow_add-lanes : goal.overflow_add-lanes
overflow_add-lanes c =
    let more = group_more c.args.words.now c.loop-start.start 8 (omega arith) (λ word. (c.type_inv.words word).fits) in
    let most = before_most c.args.words.now (c.loop-start.start + 8) in
    let so_far = c.loop-start.invariant.2 in
    adds_fit w64 c.loop-start.lanes (lane_counts (chunk c.loop-start.start 8 c.args.words.now)) (omega arith)

pub loop-start-preserved : goal.loop-start-preserved
loop-start-preserved c =
    let counts = lane_counts (chunk c.loop-start.start 8 c.args.words.now) in
    let more = group_more c.args.words.now c.loop-start.start 8 (omega arith) (λ word. (c.type_inv.words word).fits) in
    let same : length c.loop-start.lanes ≡ length counts = c.loop-start.invariant.1 ∙ sym (length_counts c.args.words.now c.loop-start.start 8 (omega arith)) in (
      omega arith,
      length-zip2 (λ a b. a + b) c.loop-start.lanes counts same ∙ c.loop-start.invariant.1,
      sum-zip2 c.loop-start.lanes counts same ∙ ap (λ n. n + sum_l counts) c.loop-start.invariant.2 ∙ sym more,
    )

pub overflow_add-ones : goal.overflow_add-ones
overflow_add-ones c =
    let most = before_most c.args.words.now c.loop-start.start in
    let so_far = c.loop-start.invariant.2 in
    sum_fits w64 0 c.loop-start.lanes (omega arith)

pub loop-word-init : goal.loop-word-init
loop-word-init c = let whole = fold-sum 0 c.loop-start.lanes in omega (arith, whole, c.loop-start.invariant.2)

pub overflow_add-ones-in-loop-word : goal.overflow_add-ones-in-loop-word
overflow_add-ones-in-loop-word c =
    let more = word_more c.args.words.now c.loop-word.word (λ word. (c.type_inv.words word).fits) in
    record { fits = omega (arith, more, before_most c.args.words.now (c.loop-word.word + 1), c.loop-word.invariant) }

pub loop-word-preserved : goal.loop-word-preserved
loop-word-preserved c =
    let more = word_more c.args.words.now c.loop-word.word (λ word. (c.type_inv.words word).fits) in omega (arith, more, c.loop-word.invariant)

pub returns : goal.returns
returns c =
    c.loop-word.invariant ∙ ap (count_before c.args.words.now) (omega arith) ∙ whole_before c.args.words.now
