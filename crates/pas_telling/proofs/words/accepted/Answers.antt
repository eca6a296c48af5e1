use Rattle.std.proofs.Common.{codes}
use Rattle.pas_telling.proofs.Lists.{isnt_text, check_words, manner_words, not_one_of, gen_words, not_gen}
use Rattle.pas_telling.proofs.words.accepted.Goals as goal

pub returns-in-len1 : goal.returns-in-len1
returns-in-len1 c = check_words c.args.words.now _ c.eq.result c.in-len1.len_at_least c.in-len1.len_below c.eq.ensures c.if-eq.true

pub returns-in_err-manner_of-in-len1-2 : goal.returns-in_err-manner_of-in-len1-2
returns-in_err-manner_of-in-len1-2 c =
    rw c.from_residual.ensures
    (not_one_of c.args.words.now _ c.in-len1.len_at_least c.in-len1.len_below (isnt_text _ (codes "check") c.eq.result c.eq.ensures c.if-eq.false) c.in_err-manner_of-in-len1-2.ensures)

pub returns-in_ok-manner_of-in-len1-2 : goal.returns-in_ok-manner_of-in-len1-2
returns-in_ok-manner_of-in-len1-2 c = manner_words c.args.words.now _ c.in-len1.len_at_least c.in-len1.len_below _ c.in_ok-manner_of-in-len1-2.ensures

pub returns-in_err-job_of-in-len5 : goal.returns-in_err-job_of-in-len5
returns-in_err-job_of-in-len5 c = rw c.from_residual-in_err-job_of-in-len5.ensures (not_gen c.args.words.now _ _ _ _ c.in-len5.len_at_least c.in-len5.len_below c.in_err-job_of-in-len5.ensures)

pub returns-in_ok-job_of-in-len5 : goal.returns-in_ok-job_of-in-len5
returns-in_ok-job_of-in-len5 c = gen_words c.args.words.now _ _ _ _ _ c.eq-then-words-lt6.result c.in-len5.len_at_least c.in-len5.len_below c.eq-then-words-lt6.ensures c.if-eq-2.true _ _ _ _ c.in_ok-job_of-in-len5.ensures
