-- The parts of an image for tools, put together, are its file.
use Rattle.std.proofs.Common.{◌≡◌, List}
use Rattle.elf_model.specs.Link.Meaning.{Meaning}
use Rattle.image_write.specs.Linkages.{Linked}
use Rattle.debug_image.specs.DebugImage as image
use Rattle.debug_image.specs.DebugLayouts.{data_in}
use Rattle.debug_image.specs.DebugViews.{row_views}
use Rattle.debug_image.specs.declared.debug_file.DebugParts.{DebugParts}
use Rattle.debug_image.specs.declared.debug_file.Wanted.{Wanted}
use Rattle.debug_image.specs.declared.debug_values.DataLayout.{DataLayout}
use Rattle.debug_main.specs.DebugFiles.{AreParts, file_of}

pub file_is :
    (w : Wanted) (l : Linked) (ms : List Meaning) (p : DebugParts) (y : DataLayout) → AreParts l ms w p →
    data_in y ≡ record { base = l.plan.base; objects = l.objects; rows = row_views p.data.rows.items } → file_of y p ≡ image.debug_file w l ms
file_is w l ms p y parts laid =
    let front = parts.front in
    let chunks = parts.chunks in
    let tail = parts.tail_is in
    let rows = parts.rows in
    cc
