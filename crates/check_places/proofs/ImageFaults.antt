-- Where a fault stands in an image, no loader of this profile maps it.
use Rattle.std.proofs.Common.{◌≡◌, List, ℕ, refl}
use Rattle.elf_model.specs.Image.MemoryImage.{IsImage, LoadFaultStands}
use Rattle.elf_model.specs.declared.faults.LoadFault.{LoadFault}
use Rattle.elf_model.specs.declared.faults.LoadFault.TheVariants.{Memory, BadHeader, BadSegment, Order, SharedPage}

pub no_image : (image : List ℕ) (f : LoadFault) → (f ≡ Memory → ⊥) → LoadFaultStands image f → IsImage image → ⊥
no_image image Memory other stands i = other refl
no_image image BadHeader other stands i = stands i.header
no_image image BadSegment other stands i = stands.1 i.segments
no_image image Order other stands i = stands.1 i.order
no_image image SharedPage other stands i = stands.1 i.pages
