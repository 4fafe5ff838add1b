-- What is kept of a header: its check, and its few cells. Assumes nothing.
use mathlib.Core.Path.{◌≡◌, refl, ap, sym, ◌∙◌}
use Prim.Native.Nat.{ℕ, ◌-◌, ◌≤◌, ◌<◌}
use native.Mathlib.Omega.{arith}
use lib.ListN.{length, take, drop}
use borrow.Author.Tests.{lt-ltb, le-ltb}
use Rattle.words.specs.Words.{Bytes}
use Rattle.std.specs.Prelude.{Ok, Err}
use Rattle.refusals.specs.Verdicts.{placed, text_too_long, Check, Verdict}
use Rattle.refusals.proofs.Placing.{placed_passes}
use Rattle.lines.specs.Lines.{lines, head_line, line_after, line_start, most_bytes}
use Rattle.lines.specs.Ends.{line_room, line_at}
use Rattle.lines.specs.declared.Line.{Line}
use Rattle.lines.proofs.Lining.{row_lines_lem, head_line_lem, head_past, head_row}
use Rattle.lines.proofs.Starting.{start_first, start_next}
use Rattle.cells.specs.Cells.{cut, cells_of}
use Rattle.cells.specs.declared.State.TheVariants.{Fresh}
use Rattle.editions.specs.declared.Edition.{Edition}
use Rattle.tables.specs.Columns.{number}
use Rattle.tables.specs.declared.Table.{Table}
use Rattle.header.specs.Header.{Header, most_cells, header_check, header_of}
use Rattle.header.specs.Heading.{headed, places, heading}
use Rattle.header.specs.Top.{TopKept, TopOf}
use Rattle.header.specs.declared.Heading.{Heading}
use Rattle.header.specs.declared.Top.{Top}
use Rattle.header.proofs.Names as names

headed_check : (c : Check) (h : Header) → (headed c h).check ≡ c
headed_check (Ok _) h = refl
headed_check (Err f) h = refl

-- the top of a text ---------------------------------------------------------------------------------------------------------------

module _ (ed : Edition) (t : Table) (s : Bytes) where
  pub top_long : most_bytes < length s → (top : Top) → top.verdict ≡ placed (number t) 0 text_too_long → TopOf ed t s top
  top_long l top e =
      record {
        is = e ∙ sym (rw (lt-ltb most_bytes (length s) l));
        kept = λ a. let z : ◌≡◌ {A = ℕ} 0 1 = cc in absurd (omega arith);
      }

  module _ (short : length s ≤ most_bytes) (r : Line) (e : r ≡ line_at ed s 0) (g : Heading) (is : g ≡ heading ed t (take (r.end - 0) (drop 0 s))) where
    heading_is : g ≡ heading ed t (head_line (lines ed s))
    heading_is = is ∙ ap (heading ed t) (head_row ed s r e)

    heading_check : g.check ≡ header_check ed t (head_line (lines ed s))
    heading_check = ap (λ (x : Heading). x.check) heading_is ∙ headed_check (header_check ed t (head_line (lines ed s))) (header_of ed t s)

    kept_top : (v : Verdict) (first : ℕ) → first ≡ line_after ed 1 (take (r.end - 0) (drop 0 s)) → header_check ed t (head_line (lines ed s)) ≡ Ok tt → TopKept ed t s (record { verdict = v; at = g.at; next = r.next; line = first })
    kept_top v first l p =
        let spots : g.at ≡ places (header_of ed t s) = ap (λ (x : Heading). x.at) heading_is ∙ names.heading_kept ed t (head_line (lines ed s)) p in
        let many : length (header_of ed t s) ≤ most_cells = omega (arith, names.header_length ed t (cells_of (cut ed (head_line (lines ed s)))), names.header_few ed t (head_line (lines ed s)) p) in
        let y : r.next ≡ line_room ed Fresh s = ap (λ (x : Line). x.next) e ∙ (omega arith) in
        let f : first ≡ line_after ed 1 (head_line (lines ed s)) = l ∙ ap (line_after ed 1) (head_row ed s r e) in
        record {
          short = short;
          few = rw spots many;
          headed = spots;
          inside = omega (arith, y, head_past ed s r e);
          rest = rw y (sym (row_lines_lem ed s));
          first = f;
          start = ap (λ (x : Line). x.next) e ∙ start_next ed 1 s 0 (omega arith) (start_first s) ∙ ap (λ (x : Bytes). line_start (line_after ed 1 x) s) (sym (head_line_lem ed s)) ∙ ap (λ (n : ℕ). line_start n s) (sym f);
        }

    pub top_headed : (v : Verdict) (first : ℕ) → first ≡ line_after ed 1 (take (r.end - 0) (drop 0 s)) → v ≡ placed (number t) 1 g.check → TopOf ed t s (record { verdict = v; at = g.at; next = r.next; line = first })
    top_headed v first l o =
        record {
          is = o ∙ ap (placed (number t) 1) heading_check ∙ sym (rw (le-ltb most_bytes (length s) short));
          kept = λ a. kept_top v first l (sym heading_check ∙ placed_passes (number t) 1 g.check (sym o ∙ a));
        }
