-- `link_all` meets its contract: at the loop's end every entry has its link. Assumes nothing.
use native.Mathlib.Omega.{arith}
use Rattle.memory.proofs.Opened.{links_all}
use Rattle.memory.proofs.links.link_all.Goals as goal

pub returns : goal.returns
returns c = let l = c.loop-i in links_all l.links c.args.links.now l.i l.auto.links (omega arith) l.invariant
