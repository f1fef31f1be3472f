-- A monitor laid over a lawful hierarchy gives a lawful one.
-- Assumes nothing.
use Rattle.hierarchy.specs.Meaning.{Meaning, Lawful}
use Rattle.monitor.specs.Product.{product}
use Rattle.monitor.specs.Tables.{automaton_of}
use Rattle.monitor.specs.declared.Monitor.{Monitor}
use Rattle.monitor.proofs.Products.{product_lawful}

pub layer_lawful : (m : Monitor) {below : Meaning} → Lawful below → Lawful (product below (automaton_of m))
layer_lawful m law = product_lawful _ (automaton_of m) law m.some
