use Rattle.std.proofs.Common.{rules, ◌≡◌, ◌∙◌, ◌++◌, List, ap, length, refl, subst, sym}
use Rattle.std.proofs.lemmas.Result.{err_from_is_err_and}
use Rattle.elf_model.specs.Own.OwnLayout.{code_pieces, code_start, data_start, own_code, own_data, own_loaded, own_read_only, own_thread_rest, placed_from, read_only_pieces, read_only_start, thread_rest_pieces, thread_rest_start}
use Rattle.elf_model.specs.Link.Placement.{Placed}
use Rattle.placing.specs.Limits.{AreAligned}
use Rattle.layout.specs.Orders.{objects_of}
use Rattle.placing.specs.PlaceViews.{place_views}
use Rattle.placing.specs.Views.{borrowed_views}
use Rattle.layout.proofs.Alignments.{code_aligned, read_only_aligned, thread_rest_aligned}
use Rattle.layout.proofs.LaidSteps.{all_in_limit, code_fails, code_from, count_is, data_fails, data_from, first_fails, loaded_runs, rest_fails, run_is, segment_is}
use Rattle.layout.proofs.placed_pieces.lay_pieces.Goals as goal

pub lay_segment-requires-clause-aligned : goal.lay_segment-requires-clause-aligned
lay_segment-requires-clause-aligned c =
    let r : borrowed_views c.deref.result.now ≡ read_only_pieces (objects_of c.args.order.now) = ap borrowed_views c.deref.ensures.value ∙ c.requires.order.read_only in
    subst AreAligned (sym r) (read_only_aligned (objects_of c.args.order.now) c.requires.objects c.requires.commons)

pub lay_segment-requires-2-clause-aligned : goal.lay_segment-requires-2-clause-aligned
lay_segment-requires-2-clause-aligned c =
    let r : borrowed_views c.deref-2.result.now ≡ code_pieces (objects_of c.args.order.now) = ap borrowed_views c.deref-2.ensures.value ∙ c.requires.order.code in
    subst AreAligned (sym r) (code_aligned (objects_of c.args.order.now) c.requires.objects c.requires.commons)

pub returns-in_err-read_only-clause-fault : goal.returns-in_err-read_only-clause-fault
returns-in_err-read_only-clause-fault c =
    let os = objects_of c.args.order.now in
    let r : borrowed_views c.deref.result.now ≡ read_only_pieces os = ap borrowed_views c.deref.ensures.value ∙ c.requires.order.read_only in
    let run = run_is c.args.headers_end (read_only_start c.args.base os) (borrowed_views c.deref.result.now) (read_only_pieces os) c.requires.start r in
    let p = err_from_is_err_and c.from_residual-in_err-read_only.result c.from_residual-in_err-read_only.ensures.1 in
    rw (p.1, p.2) (first_fails c.args.base os _ c.in_err-read_only.field-0.0 run c.in_err-read_only.ensures.fault)

pub returns-in_err-code-clause-fault : goal.returns-in_err-code-clause-fault
returns-in_err-code-clause-fault c =
    let os = objects_of c.args.order.now in
    let r : borrowed_views c.deref.result.now ≡ read_only_pieces os = ap borrowed_views c.deref.ensures.value ∙ c.requires.order.read_only in
    let t : borrowed_views c.deref-2.result.now ≡ code_pieces os = ap borrowed_views c.deref-2.ensures.value ∙ c.requires.order.code in
    let cs = code_from c.args.base os c.args.headers_end c.in_ok-read_only.read_only.end c.page_up-code_start.result (borrowed_views c.deref.result.now)
    c.requires.start r c.in_ok-read_only.ensures.end c.page_up-code_start.ensures.page in
    let run = run_is c.page_up-code_start.result (code_start c.args.base os) (borrowed_views c.deref-2.result.now) (code_pieces os) cs t in
    let p = err_from_is_err_and c.from_residual-in_err-code.result c.from_residual-in_err-code.ensures.1 in
    rw (p.1, p.2) (code_fails c.args.base os _ c.in_err-code.field-0.0 run c.in_err-code.ensures.fault)

pub lay_writable-requires-clause-start : goal.lay_writable-requires-clause-start
lay_writable-requires-clause-start c =
    let os = objects_of c.args.order.now in
    let t : borrowed_views c.deref-2.result.now ≡ code_pieces os = ap borrowed_views c.deref-2.ensures.value ∙ c.requires.order.code in
    let cs : c.page_up-code_start.result ≡ code_start c.args.base os =
    code_from c.args.base os c.args.headers_end c.in_ok-read_only.read_only.end c.page_up-code_start.result (borrowed_views c.deref.result.now)
    c.requires.start (ap borrowed_views c.deref.ensures.value ∙ c.requires.order.read_only) c.in_ok-read_only.ensures.end c.page_up-code_start.ensures.page in
    data_from c.args.base os c.page_up-code_start.result c.in_ok-code.code.end c.page_up-data_start.result (borrowed_views c.deref-2.result.now)
    cs t c.in_ok-code.ensures.end c.page_up-data_start.ensures.page

pub place_run-requires-clause-aligned : goal.place_run-requires-clause-aligned
place_run-requires-clause-aligned c =
    let os = objects_of c.args.order.now in
    let u : borrowed_views c.deref-3.result.now ≡ thread_rest_pieces os = ap borrowed_views c.deref-3.ensures.value ∙ c.requires.order.thread_rest in
    subst AreAligned (sym u) (thread_rest_aligned os c.requires.objects c.requires.commons)

pub returns-in_err-writable-clause-fault : goal.returns-in_err-writable-clause-fault
returns-in_err-writable-clause-fault c =
    let p = err_from_is_err_and c.from_residual-in_err-writable.result c.from_residual-in_err-writable.ensures.1 in
    rw (p.1, p.2) (data_fails c.args.base (objects_of c.args.order.now) c.in_err-writable.field-0.0 c.in_err-writable.ensures.fault)

pub returns-in_err-place_run-clause-fault : goal.returns-in_err-place_run-clause-fault
returns-in_err-place_run-clause-fault c =
    let os = objects_of c.args.order.now in
    let u : borrowed_views c.deref-3.result.now ≡ thread_rest_pieces os = ap borrowed_views c.deref-3.ensures.value ∙ c.requires.order.thread_rest in
    let run = run_is c.in_ok-writable.writable.thread_end (thread_rest_start c.args.base os) (borrowed_views c.deref-3.result.now) (thread_rest_pieces os) c.in_ok-writable.ensures.end u in
    let p = err_from_is_err_and c.from_residual-in_err-place_run.result c.from_residual-in_err-place_run.ensures.1 in
    rw (p.1, p.2) (rest_fails c.args.base os _ c.in_err-place_run.field-0.0 run c.in_err-place_run.ensures.fault)

pub returns-clause-laid : goal.returns-clause-laid
returns-clause-laid c =
    let base = c.args.base in
    let os = objects_of c.args.order.now in
    let r : borrowed_views c.deref.result.now ≡ read_only_pieces os = ap borrowed_views c.deref.ensures.value ∙ c.requires.order.read_only in
    let t : borrowed_views c.deref-2.result.now ≡ code_pieces os = ap borrowed_views c.deref-2.ensures.value ∙ c.requires.order.code in
    let cs : c.page_up-code_start.result ≡ code_start c.args.base os =
    code_from c.args.base os c.args.headers_end c.in_ok-read_only.read_only.end c.page_up-code_start.result (borrowed_views c.deref.result.now)
    c.requires.start r c.in_ok-read_only.ensures.end c.page_up-code_start.ensures.page in
    let ds : c.page_up-data_start.result ≡ data_start base os = data_from base os c.page_up-code_start.result c.in_ok-code.code.end c.page_up-data_start.result (borrowed_views c.deref-2.result.now)
    cs t c.in_ok-code.ensures.end c.page_up-data_start.ensures.page in
    let u : borrowed_views c.deref-3.result.now ≡ thread_rest_pieces os = ap borrowed_views c.deref-3.ensures.value ∙ c.requires.order.thread_rest in
    let run1 : placed_from c.args.headers_end (borrowed_views c.deref.result.now) ≡ own_read_only base os =
    run_is c.args.headers_end (read_only_start base os) (borrowed_views c.deref.result.now) (read_only_pieces os) c.requires.start r in
    let run2 : placed_from c.page_up-code_start.result (borrowed_views c.deref-2.result.now) ≡ own_code base os =
    run_is c.page_up-code_start.result (code_start base os) (borrowed_views c.deref-2.result.now) (code_pieces os) cs t in
    let run4 : placed_from c.in_ok-writable.writable.thread_end (borrowed_views c.deref-3.result.now) ≡ own_thread_rest base os =
    run_is c.in_ok-writable.writable.thread_end (thread_rest_start base os) (borrowed_views c.deref-3.result.now) (thread_rest_pieces os) c.in_ok-writable.ensures.end u in
    let p0 : List Placed = place_views c.in_ok-places.places.items in
    let p1 : List Placed = place_views c.lay_segment.new.out.items in
    let p2 : List Placed = place_views c.lay_segment-2.new.out.items in
    let p3 : List Placed = place_views c.lay_writable.new.out.items in
    let loaded : p3 ≡ own_loaded base os =
    loaded_runs p0 p1 p2 p3 (own_read_only base os) (own_code base os) (own_data base os)
    (ap place_views c.in_ok-places.ensures.items)
    (c.in_ok-read_only.ensures.placed ∙ ap (λ (qs : List Placed). p0 ++ qs) run1)
    (c.in_ok-code.ensures.placed ∙ ap (λ (qs : List Placed). p1 ++ qs) run2)
    c.in_ok-writable.ensures.placed in
    let count : c.len-loaded.result ≡ length c.lay_writable.new.out.items = search rules in
    record {
      places =
          c.in_ok-place_run.ensures.placed
          ∙ (ap (λ (qs : List Placed). p3 ++ qs) run4 ∙ ap (λ (qs : List Placed). qs ++ own_thread_rest base os) loaded);
      loaded = count ∙ count_is c.lay_writable.new.out.items (own_loaded base os) loaded;
      read_only =
          c.in_ok-read_only.ensures.segment ∙ segment_is base 4 base base c.args.headers_end (read_only_start base os) _ _ refl c.requires.start run1;
      code =
          c.in_ok-code.ensures.segment
          ∙ segment_is base 5 c.page_up-code_start.result (code_start base os) c.page_up-code_start.result (code_start base os) _ _ cs cs run2;
      writable =
          c.in_ok-writable.ensures.segment
          ∙ segment_is base 6 c.page_up-data_start.result (data_start base os) c.page_up-data_start.result (data_start base os) (own_data base os) (own_data base os) ds ds refl;
      limit =
          all_in_limit (own_read_only base os) (own_code base os) (own_data base os) (own_thread_rest base os) _ _ (own_data base os) _ run1 run2 refl run4
          c.in_ok-read_only.ensures.limit c.in_ok-code.ensures.limit c.in_ok-writable.ensures.limit c.in_ok-place_run.ensures.limit;
    }
