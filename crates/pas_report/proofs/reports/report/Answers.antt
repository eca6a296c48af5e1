use Rattle.std.proofs.{Common.{rules, ◌≡◌, ◌-◌, ap, sym, ◌∙◌, subst, arith, refl}, lemmas.Result.{on_ok_weaker, on_err_weaker}}
use Rattle.pas_profile.specs.declared.profile.Profile.{Profile}
use Rattle.pas_io.specs.Told.{Writes, WritesFront}
use Rattle.pas_report.{specs.Counts.{page_by_words, pages_of, report_by_words, totals_by_words}, proofs.Pieces.{next_page, report_front, report_put_out}}
use Rattle.pas_records.{specs.Pieces.IsPutOut, proofs.Pieces.{flushed, front_out, put_more}}
use Rattle.pas_report.proofs.reports.report.Goals as goal

pub returns-in_err-make_room-clause-front : goal.returns-in_err-make_room-clause-front
returns-in_err-make_room-clause-front g c =
    let pages : c.profile.result.now.pages ≡ pages_of c.args.state.now = ap (λ (f : Profile). f.pages) c.profile.ensures in
    let front = report_front c.args.state.now (c.loop-page.page - 1) _ _ (omega arith) (c.in_err-make_room.ensures.front _ _ c.loop-page.invariant.put_out) in
    search (rules, front)

pub loop-page-preserved : goal.loop-page-preserved
loop-page-preserved g c =
    let kept = c.in_ok-make_room.ensures.keeps _ _ c.loop-page.invariant.put_out in
    let out = put_more _ _ _ c.push_page.new.text.bytes _ (page_by_words c.args.state.now c.loop-page.page) c.push_page.ensures kept in
    record {
      put_out = subst (IsPutOut _ _ _) (sym (next_page c.args.state.now c.loop-page.page (omega arith))) out;
      count = search rules;
    }

pub returns-in_err-make_room-2-clause-front : goal.returns-in_err-make_room-2-clause-front
returns-in_err-make_room-2-clause-front g c =
    let pages : c.profile.result.now.pages ≡ pages_of c.args.state.now = ap (λ (f : Profile). f.pages) c.profile.ensures in
    let front = report_front c.args.state.now (c.loop-page.page - 1) _ _ (omega arith) (c.in_err-make_room-2.ensures.front _ _ c.loop-page.invariant.put_out) in
    search (rules, front)

pub returns-clause-whole : goal.returns-clause-whole
returns-clause-whole g c =
    let pages : c.profile.result.now.pages ≡ pages_of c.args.state.now = ap (λ (f : Profile). f.pages) c.profile.ensures in
    let kept = c.in_ok-make_room-2.ensures.keeps _ _ c.loop-page.invariant.put_out in
    let out = report_put_out c.args.state.now (c.loop-page.page - 1) (totals_by_words c.args.state.now) _ _ _ (omega arith) refl (put_more _ _ _ _ _ _ c.push_totals.ensures kept) in
    let waiting : c.as_bytes.result.now ≡ c.push_totals.new.text.bytes = c.as_bytes.ensures.value ∙ c.as_str.ensures.value in
    on_ok_weaker c.write_all.result (λ (wrote : Writes (g.K.Sink.held c.make_room-2.new.sink) (g.K.Sink.held c.write_all.new.sink) c.as_bytes.result.now).
    flushed _ _ _ _ (report_by_words c.args.state.now) out (rw waiting at wrote)) c.write_all.ensures.whole

pub returns-clause-front : goal.returns-clause-front
returns-clause-front g c =
    let pages : c.profile.result.now.pages ≡ pages_of c.args.state.now = ap (λ (f : Profile). f.pages) c.profile.ensures in
    let kept = c.in_ok-make_room-2.ensures.keeps _ _ c.loop-page.invariant.put_out in
    let out = report_put_out c.args.state.now (c.loop-page.page - 1) (totals_by_words c.args.state.now) _ _ _ (omega arith) refl (put_more _ _ _ _ _ _ c.push_totals.ensures kept) in
    let waiting : c.as_bytes.result.now ≡ c.push_totals.new.text.bytes = c.as_bytes.ensures.value ∙ c.as_str.ensures.value in
    on_err_weaker c.write_all.result (λ (wrote : WritesFront (g.K.Sink.held c.make_room-2.new.sink) (g.K.Sink.held c.write_all.new.sink) c.as_bytes.result.now).
    front_out _ _ _ _ (report_by_words c.args.state.now) out (rw waiting at wrote)) c.write_all.ensures.front
