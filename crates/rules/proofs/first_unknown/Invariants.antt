-- `rules::first_unknown` meets its contract: the references before place i find their rows. Assumes nothing.
use mathlib.Core.Path.{◌≡◌}
use Rattle.std.specs.Prelude.{Ok}
use lib.ListN.{length, drop}
use Rattle.tables.specs.Columns.{references}
use Rattle.book.specs.Room.{book_of}
use Rattle.rules.specs.Rules.{unknown_of, unknown}
use Rattle.rules.proofs.first_unknown.Given as goal

abbrev pub invariant-references : goal.invariant-references
invariant-references l =
    record {
      whole : l.i-end ≡ length (references l.t);
      left : unknown l.t l.row (book_of l.book) ≡ unknown_of (drop l.i (references l.t)) l.row (book_of l.book);
      passing : l.check ≡ Ok tt;
    }
