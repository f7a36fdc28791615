use Rattle.std.proofs.Common.{rules, ◌≡◌, ◌∙◌, ◌<◌, ◌++◌, ℕ, List, [], ap, get_or, length, sym, arith}
use Rattle.std.specs.Prelude.{replicate}
use Rattle.std.specs.Vec.{vec_len}
use Rattle.std.proofs.lemmas.List.{get_or-map, length-map}
use Rattle.elf_model.specs.Own.OwnLayout.{leaders}
use Rattle.elf_model.specs.Link.Pieces as pieces
use Rattle.layout.specs.Groups.{group_views, put_at}
use Rattle.placing.specs.Views.{piece_view, piece_views}
use Rattle.layout.proofs.GroupSteps.{empties, groups_more, number_within, sections_count}
use Rattle.placing.proofs.RunSteps.{no_piece}
use Rattle.layout.proofs.output_sections.groups_of.Goals as goal

pub loop-k-init : goal.loop-k-init
loop-k-init c =
    let ps = piece_views c.args.pieces.now in
    let n = sections_count ps c.args.outputs.now.sections.items c.args.outputs.now.numbers.items c.requires in
    let same_len : vec_len c.args.outputs.now.sections ≡ length c.args.outputs.now.sections.items = search rules in
    let count : c.len.result ≡ length c.args.outputs.now.sections.items = c.len.ensures ∙ same_len in
    c.in_ok-add_groups.ensures
    ∙ ap (λ (gs : List (List pieces.Piece)). gs ++ replicate c.len.result []) (ap group_views c.new-groups.ensures.items)
    ∙ empties (leaders ps) c.len.result (count ∙ n)

pub add_piece-requires : goal.add_piece-requires
add_piece-requires c =
    let ps = piece_views c.args.pieces.now in
    let k = c.loop-k.k in
    let count = length-map c.args.pieces.now piece_view in
    let low : k < length ps = let t = c.loop-k-test.true in omega (arith, count, t) in
    let is : c.index.result.now ≡ get_or c.args.outputs.now.numbers.items k c.index.result.now = c.index.ensures in
    let within = number_within ps c.args.outputs.now.sections.items c.args.outputs.now.numbers.items c.requires k c.index.result.now low in
    let same : length c.loop-k.groups.items ≡ length (leaders ps) =
    sym (length-map c.loop-k.groups.items _) ∙ (ap (λ (gs : List (List pieces.Piece)). length gs) c.loop-k.invariant ∙ length-map (leaders ps) _) in
    omega (arith, is, within, same)

pub loop-k-preserved : goal.loop-k-preserved
loop-k-preserved c =
    let ps = piece_views c.args.pieces.now in
    let k = c.loop-k.k in
    let count = length-map c.args.pieces.now piece_view in
    let low : k < length ps = let t = c.loop-k-test.true in omega (arith, count, t) in
    groups_more ps c.args.outputs.now.sections.items c.args.outputs.now.numbers.items c.requires k c.index.result.now (piece_view no_piece) low
    (group_views c.loop-k.groups.items) (group_views c.add_piece.new.groups.items) c.loop-k.invariant
    (c.in_ok-add_piece.ensures
    ∙ ap (λ (i : ℕ). put_at (group_views c.loop-k.groups.items) i (piece_view (get_or c.args.pieces.now k no_piece))) c.index.ensures
    ∙ ap (put_at (group_views c.loop-k.groups.items) (get_or c.args.outputs.now.numbers.items k c.index.result.now))
    (sym (get_or-map piece_view c.args.pieces.now k no_piece (piece_view no_piece) c.loop-k-test.true)))
