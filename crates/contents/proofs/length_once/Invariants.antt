-- `contents::length_once` meets its contract: what is counted and what is left to count make up the content's length. Assumes nothing.
use mathlib.Core.Path.{◌≡◌}
use mathlib.Core.Bool.{false}
use Prim.Native.Nat.{◌+◌, ◌≤◌}
use lib.ListN.{length, drop}
use Rattle.cells.specs.Cells.{once}
use Rattle.contents.proofs.length_once.Given as goal

abbrev pub invariant-loop-byte : goal.invariant-loop-byte
invariant-loop-byte l = (l.byte-index ≤ length l.stretch) × (l.n ≤ l.byte-index) × (l.n + length (once l.doubled (drop l.byte-index l.stretch)) ≡ length (once false l.stretch))
