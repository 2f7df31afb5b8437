-- `number` meets its contract: what stands in the buffer stands on the page. Assumes nothing.
use Rattle.printing.proofs.Pages.{page_holds_number, page_numbered}
use Rattle.printing.proofs.Page.number.Goals as goal

pub invariant_of-self : goal.invariant_of-self
invariant_of-self g c = page_holds_number _ _ _ _ c.self.view_is c.self.told c.self.invariant c.number-self-inside.ensures

pub returns : goal.returns
returns g c = page_numbered _ _ _ _ c.self.view_is c.self.told c.self.invariant c.number-self-inside.ensures
