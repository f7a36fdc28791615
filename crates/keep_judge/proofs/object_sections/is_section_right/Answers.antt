use Rattle.std.proofs.Common.{◌∙◌, ap, sym}
use Rattle.std.proofs.lemmas.Bool.{false≢true}
use Rattle.check_load.specs.Views.{loaded_view}
use Rattle.elf_model.specs.Link.Pieces.{has_flag}
use Rattle.elf_model.specs.declared.constants.TheConstants.{SHF_LINK_ORDER}
use Rattle.elf_model.specs.declared.records.SectionHeader.{SectionHeader}
use Rattle.judge_model.specs.Kept.{shf_exclude}
use Rattle.keep_judge.specs.Collected.{is_there}
use Rattle.keep_judge.proofs.GroupMarks.{link_same, out_same}
use Rattle.keep_judge.proofs.object_sections.is_section_right.Goals as goal

pub returns-then-not-is_out_right : goal.returns-then-not-is_out_right
returns-then-not-is_out_right c =
    let header = c.section-header.ensures in
    let never = c.is_never_there.ensures ∙ ap (has_flag shf_exclude) header in
    let root = c.is_root_kind-root.ensures c.args.number header in (
      λ e. absurd (false≢true e),
      λ w. absurd
          (false≢true
          (sym c.if-not-is_out_right.true
          ∙ c.is_out_right.ensures.1 (out_same _ _ _ _ _ _ (sym never) (sym root) (sym c.has-out.ensures) w.out))),
    )

pub returns : goal.returns
returns c =
    let header = c.section-header.ensures in
    let never = c.is_never_there.ensures ∙ ap (has_flag shf_exclude) header in
    let root = c.is_root_kind-root.ensures c.args.number header in
    let ordered = c.is_ordered.ensures ∙ ap (has_flag SHF_LINK_ORDER) header in
    let linked =
    c.is_there-linked.ensures
    ∙ ap (λ (h : SectionHeader). is_there c.args.drops.now c.args.number (loaded_view c.args.loaded.now) h.sh_link) header in (
      λ t. record {
        out = out_same _ _ _ _ _ _ never root c.has-out.ensures (c.is_out_right.ensures.0 c.if-not-is_out_right.false);
        link = link_same _ _ _ _ _ _ ordered c.has-out.ensures linked (c.is_link_right.ensures.0 t);
      },
      λ w. c.is_link_right.ensures.1 (link_same _ _ _ _ _ _ (sym ordered) (sym c.has-out.ensures) (sym linked) w.link),
    )
