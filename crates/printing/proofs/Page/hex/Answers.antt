-- `hex` meets its contract: what stands in the buffer stands on the page. Assumes nothing.
use Rattle.printing.proofs.Pages.{page_holds, page_put}
use Rattle.printing.proofs.Page.hex.Goals as goal

pub invariant_of-self : goal.invariant_of-self
invariant_of-self g c = page_holds _ _ _ _ c.self.view_is c.self.told c.self.invariant c.hex-self-inside.ensures

pub returns : goal.returns
returns g c = page_put _ _ _ _ c.self.view_is c.self.told c.self.invariant c.hex-self-inside.ensures
