use Rattle.std.proofs.Common.{◌+◌, List, [], arith, get_or, length, subst, sym, take, ◌∙◌}
use Rattle.std.proofs.lemmas.Bool.{eqb-true}
use Rattle.check_load.specs.declared.kept_sections.KeptRela.{KeptRela}
use Rattle.check_link.specs.declared.things.Placed.{Placed}
use Rattle.checker.specs.Rising.{AreInOrderSoFar}
use Rattle.checker.proofs.RisingOrder.{first_relas, order_end, order_more, order_next, order_none}
use Rattle.checker.proofs.rising_fields.have_fields.Goals as goal

null_placed : Placed
null_placed = record {
  at = 0;
  piece = record {
    object = 0;
    section = 0;
    header = record { sh_name = 0; sh_type = 0; sh_flags = 0; sh_addr = 0; sh_offset = 0; sh_size = 0; sh_link = 0; sh_info = 0; sh_addralign = 0; sh_entsize = 0 };
    name = record { ref_ptr = (0, 0); now = [] };
    bytes = record { ref_ptr = (0, 0); now = [] };
  };
}

pub loop-placed-init : goal.loop-placed-init
loop-placed-init c =
    let h = c.args.here.now in
    record {
      known = c.requires;
      order =
          subst (λ (ks : List KeptRela). AreInOrderSoFar h c.args.memory.now ks [] 0) (sym c.kept_relas-relas.ensures.exact)
          (order_none h c.args.memory.now);
    }

pub loop-placed-preserved : goal.loop-placed-preserved
unfolding null_placed
loop-placed-preserved c =
    let h = c.args.here.now in
    let image = c.args.memory.now in
    let own = c.args.own.now in
    let i = c.loop-placed.placed-index in
    let q = get_or own i null_placed in
    let ks = c.loop-placed.relas.now in
    let mine = c.split_at.result.0.now in
    let others = c.split_at.result.1.now in
    let cut =
    first_relas q.piece.section ks mine others c.relas_of.result c.relas_of.ensures.count c.split_at.ensures.front c.split_at.ensures.back in
    let low = c.if-section-low.false in
    let told = c.if-not-has_fields.false in
    record {
      known = c.has_fields.ensures.kept;
      order =
          order_next h image others own i null_placed (q.piece.section + 1) c.loop-placed-test.true
          (order_more h image ks mine others (take i own) q c.loop-placed.low c.loop-placed.invariant.order cut.0 cut.1 (omega (arith, low))
          (c.has_fields.ensures.right told) (c.has_fields.ensures.rising told) (c.has_fields.ensures.held told));
    }

pub returns : goal.returns
returns c =
    λ e. order_end c.args.here.now c.args.memory.now c.loop-placed.relas.now c.args.own.now c.loop-placed.placed-index c.loop-placed.low
    (let past = c.loop-placed-test.false in omega (arith, past)) (eqb-true (length c.loop-placed.relas.now) 0 (sym c.is_empty.ensures ∙ e)) c.loop-placed.invariant.order
