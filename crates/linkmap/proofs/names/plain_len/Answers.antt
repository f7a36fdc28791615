use Rattle.std.proofs.Common.{◌≡◌, ◌+◌, ◌-◌, ◌≤◌, length, drop, arith, ap, ◌∙◌}
use Rattle.std.specs.List.{prefix_len}
use Rattle.std.proofs.lemmas.List.{length-drop}
use Rattle.elf_model.specs.Image.MapText.{is_plain}
use Rattle.linkmap.proofs.PlainVectors.{front_plain}
use Rattle.linkmap.proofs.names.plain_len.Goals as goal

pub vectors-preserved : goal.vectors-preserved
vectors-preserved c =
    let bytes = c.args.bytes.now in
    let rest = c.vectors.rest.now in
    let back : c.split_at.result.1.now ≡ drop 16 rest = c.split_at.ensures.back in
    let long = ap length back ∙ length-drop 16 rest in
    let front = front_plain 16 rest c.vectors-test.true (c.are_plain.ensures c.if-not-are_plain.false) in
    let behind = ap (prefix_len is_plain) back in
    let within : length rest ≤ length bytes = c.vectors.invariant.within in
    let count : prefix_len is_plain bytes ≡ length bytes - length rest + prefix_len is_plain rest = c.vectors.invariant.count in
    let fits : 16 ≤ length rest = c.vectors-test.true in
    record {
      within = omega (arith, long, within);
      count = omega (arith, long, within, count, front, behind, fits);
    }
