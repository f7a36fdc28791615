use Rattle.std.proofs.Common.{◌≡◌, ◌++◌, ◌∙◌, List, ℕ, ap, append_assoc, subst, sym}
use Rattle.elf_model.specs.Link.Placement.{Placed}
use Rattle.resolve.specs.Views.{meaning_views}
use Rattle.debug_image.specs.DebugImage as image
use Rattle.debug_image.specs.DebugLayouts.{data_in}
use Rattle.debug_image.specs.DebugValues.{all_bytes}
use Rattle.debug_image.specs.DebugViews.{chunk_views}
use Rattle.debug_image.specs.MappedSections.{AreMapped, in_memory}
use Rattle.debug_image.specs.PlainImages.{plain_of}
use Rattle.debug_image.specs.declared.chunks.Chunk as code
use Rattle.debug_image.proofs.debug_file.debug_image.Goals as goal

pub returns-clause-plain : goal.returns-clause-plain
returns-clause-plain c = λ strip.
    let middle = all_bytes (data_in c.in_ok-layout.layout) (chunk_views c.deref-2.result.now) in
    let back = c.deref-3.result.now in
    ap plain_of
    (c.in_ok-extend_from_slice.ensures.items
    ∙ ap (λ (xs : List ℕ). xs ++ back) (c.in_ok-add_chunks.ensures ∙ ap (λ (xs : List ℕ). xs ++ middle) (c.in_ok-file.ensures.items ∙ c.deref.ensures.value))
    ∙ append_assoc c.in_ok-parts.parts.front.items middle back)
    ∙ c.in_ok-parts.ensures.plain strip (middle ++ back)

pub returns-clause-mapped : goal.returns-clause-mapped
returns-clause-mapped c =
    let w = c.args.wanted in
    let l = c.args.linkage.now in
    let ms = meaning_views c.args.names.now in
    let middle = all_bytes (data_in c.in_ok-layout.layout) (chunk_views c.deref-2.result.now) in
    let back = c.deref-3.result.now in
    let data_ : data_in c.in_ok-layout.layout ≡ image.data_in w l =
    c.in_ok-layout.ensures.data
    ∙ ap (λ (rows : List (List Placed)). record { base = l.plan.base; objects = l.objects; rows = rows }) c.in_ok-parts.ensures.rows in
    let chunks : chunk_views c.deref-2.result.now ≡ image.chunks_in w l =
    ap (λ (cs : List code.Chunk). chunk_views cs) c.deref-2.ensures.value ∙ c.in_ok-parts.ensures.chunks in
    let made =
    c.in_ok-extend_from_slice.ensures.items
    ∙ ap (λ (xs : List ℕ). xs ++ back) (c.in_ok-add_chunks.ensures ∙ ap (λ (xs : List ℕ). xs ++ middle) (c.in_ok-file.ensures.items ∙ c.deref.ensures.value))
    ∙ append_assoc c.in_ok-parts.parts.front.items middle back in
    subst (λ (xs : List ℕ). AreMapped xs (in_memory (image.headers_in w l ms)))
    (sym (made ∙ (λ i. c.in_ok-parts.ensures.front i ++ (all_bytes (data_ i) (chunks i) ++ (c.deref-3.ensures.value ∙ c.in_ok-parts.ensures.tail) i))))
    c.in_ok-parts.ensures.mapped
