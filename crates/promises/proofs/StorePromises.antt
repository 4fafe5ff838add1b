-- Demand 3: what an accepted slip stores, row for row and key by key, and a run of slips. Assumes nothing.
use Prim.Native.Nat.{ℕ, suc, ◌+◌}
use native.Mathlib.Omega.{arith}
use mathlib.Core.Path.{◌≡◌, refl, ap, sym, ◌∙◌}
use mathlib.Core.Bool.{Bool, true, false, not}
use mathlib.Core.List.{List, [], ◌∷◌, ◌++◌, append_assoc}
use Rattle.words.specs.Words.{Bytes, Row, whether◌then◌else◌}
use Rattle.refusals.proofs.Chaining.{both}
use Rattle.refusals.specs.Verdicts.{◌⊳◌, ◌when◌, place, in_text, text_too_long, too_many_rows, ends_early, key_stands, no_block, nowhere, not_there, Check}
use Rattle.std.specs.Prelude.{Ok, Err}
use Rattle.lines.specs.Lines.{slip_lines, overlong}
use Rattle.fields.specs.Fields.{fields}
use Rattle.rows.specs.Rows.{same_key, stands, found, rising}
use Rattle.rows.proofs.Changes.{found_key}
use Rattle.tables.specs.declared.Table.TheVariants.{Block, VehicleType}
use Rattle.book.specs.Book.{Book, full, knows}
use Rattle.book.specs.Result.{Result, leaves, refused}
use Rattle.rules.specs.Rules.{time_fault, unknown, ruled, seconds}
use Rattle.questions.specs.Questions.{seven, total, seconds_of, count_of}
use Rattle.questions.specs.Calls.{block_answered, block_call, type_answered, type_call}
use Rattle.questions.specs.declared.TypeAnswer.{TypeAnswer}
use Rattle.delivery.specs.Calls.{read_call}
use Rattle.slip_line.specs.SlipLine.{numbers, wish, bad_field, row_in}
use Rattle.slip_line.specs.declared.Wish.{Wish}
use Rattle.slip_line.specs.declared.Wish.TheVariants.{Add, Replace, Delete, Unknown}
use Rattle.block_change.specs.Change.{missing_block, line_judged, granted, slip_check, slip_leaves}
use Rattle.slips.specs.Slips.{lines_posted, posting, kept, posted}
use Rattle.writer.specs.Writing.{written}
use Rattle.promises.specs.Promises.{rows_of, copies, accepted, run, with_blocks, slips_called, brings, takes, brought_by, taken_by, LineStores, all_brought, all_taken, SlipStores, honoured, RunStores, RowsStored, SharesStored, says, last_said, SlipSaid, RunSaid, none, CallsSaid, YearsFaultRuledOut}
use Rattle.promises.proofs.TestLaws.{unfailed, going_on}
use Rattle.promises.proofs.WeighLaws.{Weighs, copies_weighs, total_weighs, many_more, many_inserted, many_replaced, many_removed}
use Rattle.promises.proofs.KeyLaws.{stood_before, own_found, other_found, granted_rises}
use Rattle.promises.proofs.PlainLaws.{Eleven, eleven}
use Rattle.promises.proofs.HeldLaws.{Good, EachGood, good_eleven}
use Rattle.promises.proofs.DeliveryLaws.{Standing}
use Rattle.promises.proofs.RuleLaws.{block_asked, type_asked}
use Rattle.promises.proofs.RulePromises.{left_standing}
use Rattle.promises.proofs.SlipPromises.{rule_kept, run_reads_afresh, other_tables_kept}
use Rattle.promises.proofs.RowPromises.{keys_exactly, weighed_exactly}
use Rattle.promises.proofs.CallPromises.{calls_read_afresh}

-- a line -------------------------------------------------------------------------------------------------------------------

not_missing : (q : Bool) → no_block when not q ≡ Ok tt → q ≡ true
not_missing true h = refl
not_missing false h = let z : ◌≡◌ {A = ℕ} 0 1 = cc in absurd (omega arith)

stood : (fs : List Bytes) (row : Row) (b : Book) (w : Wish) → line_judged w fs row b ≡ Ok tt → stands 4 row b.blocks ≡ stood_before w
stood fs row b Unknown p = let z : ◌≡◌ {A = ℕ} 0 1 = cc in absurd (omega arith)
stood fs row b Add p =
    let p5 = both (too_many_rows when full Block b) (bad_field b.edition fs ⊳ ruled Block row b) p in
    let p8 = both (bad_field b.edition fs) (ruled Block row b) p5.1 in
    let p11 = both (ends_early when time_fault Block row) (key_stands when knows Block row b ⊳ unknown Block row b) p8.1 in
    unfailed 9 0 (knows Block row b) (both (key_stands when knows Block row b) (unknown Block row b) p11.1).0
stood fs row b Replace p =
    let p8 = both (bad_field b.edition fs) (ends_early when time_fault Block row ⊳ missing_block row b ⊳ unknown Block row b) p in
    let p11 = both (ends_early when time_fault Block row) (missing_block row b ⊳ unknown Block row b) p8.1 in
    not_missing (knows Block row b) (both (missing_block row b) (unknown Block row b) p11.1).0
stood fs row b Delete p = not_missing (knows Block row b) (both (bad_field b.edition fs) (missing_block row b) p).1

module _ (many : List Row → ℕ) (h : Weighs many) where
  granted_stores : (w : Wish) (row : Row) (b : Book) → stands 4 row b.blocks ≡ stood_before w →
      many (granted w row b).blocks + many (takes w row b) ≡ many b.blocks + many (brings w row)
  granted_stores Unknown row b f = refl
  granted_stores Add row b f = omega (arith, h.nothing, many_inserted many h 4 row b.blocks f)
  granted_stores Replace row b f = many_replaced many h 4 row b.blocks f
  granted_stores Delete row b f = omega (arith, h.nothing, many_removed many h 4 row b.blocks f)

  pub line_stores : LineStores slip_leaves many
  line_stores b l p = granted_stores (wish (fields l)) (row_in l) b (stood (numbers (fields l)) (row_in l) b (wish (fields l)) p)

-- the row of each key behind it
line_said : (b : Book) (l : Bytes) (key : Row) → rising 4 b.blocks ≡ true → slip_check l b ≡ Ok tt →
    found 4 key (slip_leaves l b).blocks
    ≡ (whether same_key 4 key (row_in l) then says (wish (fields l)) (row_in l) (found 4 key b.blocks) else found 4 key b.blocks)
line_said b l key up p = go (same_key 4 key (row_in l)) refl
  where
    go : (q : Bool) → same_key 4 key (row_in l) ≡ q →
        found 4 key (slip_leaves l b).blocks ≡ (whether q then says (wish (fields l)) (row_in l) (found 4 key b.blocks) else found 4 key b.blocks)
    go true e =
        found_key 4 key (row_in l) e (slip_leaves l b).blocks
        ∙ own_found (wish (fields l)) (row_in l) b up (stood (numbers (fields l)) (row_in l) b (wish (fields l)) p)
        ∙ ap (λ (z : Row). says (wish (fields l)) (row_in l) z) (sym (found_key 4 key (row_in l) e b.blocks))
    go false e = other_found key (row_in l) e (wish (fields l)) b

-- lines -------------------------------------------------------------------------------------------------------------------

passing : (i : ℕ) (l : Bytes) (ls : List Bytes) (b c : Book) → lines_posted i (l ∷ ls) b ≡ leaves c →
    (slip_check l b ≡ Ok tt) × (lines_posted (suc i) ls (slip_leaves l b) ≡ leaves c)
unfolding lines_posted
passing i l ls b c e = go (slip_check l b) refl
  where
    go : (v : Check) → slip_check l b ≡ v → (slip_check l b ≡ Ok tt) × (lines_posted (suc i) ls (slip_leaves l b) ≡ leaves c)
    go (Ok _) v = (v, rw v at e)
    go (Err f) v = let t : refused (place f.number 5 i f.column) ≡ leaves c = rw v at e in let z : ◌≡◌ {A = ℕ} 0 1 = cc in absurd (omega arith)

lines_store : (many : List Row → ℕ) (h : Weighs many) (i : ℕ) (ls : List Bytes) (b c : Book) → lines_posted i ls b ≡ leaves c →
    many c.blocks + many (all_taken ls b) ≡ many b.blocks + many (all_brought ls)
unfolding lines_posted all_taken all_brought
lines_store many h i [] b c e = let f : b ≡ c = cc in ap (λ (z : Book). many z.blocks + many []) (sym f)
lines_store many h i (l ∷ ls) b c e =
    let p = passing i l ls b c e in
    omega (
      arith,
      lines_store many h (suc i) ls (slip_leaves l b) c p.1,
      line_stores many h b l p.0,
      many_more many h (taken_by l b) (all_taken ls (slip_leaves l b)),
      many_more many h (brought_by l) (all_brought ls),
    )

lines_said : (i : ℕ) (ls : List Bytes) (b c : Book) (key : Row) → rising 4 b.blocks ≡ true → lines_posted i ls b ≡ leaves c →
    found 4 key c.blocks ≡ last_said key ls (found 4 key b.blocks)
unfolding lines_posted last_said
lines_said i [] b c key up e = let f : b ≡ c = cc in ap (λ (z : Book). found 4 key z.blocks) (sym f)
lines_said i (l ∷ ls) b c key up e =
    let p = passing i l ls b c e in
    lines_said (suc i) ls (slip_leaves l b) c key (granted_rises (wish (fields l)) (row_in l) b up) p.1
    ∙ ap (λ (z : Row). last_said key ls z) (line_said b l key up p.0)

-- a slip ------------------------------------------------------------------------------------------------------------------

all_lines : (s : Bytes) (b c : Book) → posting s b ≡ leaves c → lines_posted 1 (slip_lines s) b ≡ leaves c
unfolding posting
all_lines s b c e = going_on (in_text 5 (text_too_long when overlong s)) (lines_posted 1 (slip_lines s) b) c e

slip_stores : (many : List Row → ℕ) → Weighs many → SlipStores many
slip_stores many h b c s e = lines_store many h 1 (slip_lines s) b c (all_lines s b c e)

pub slip_said : SlipSaid
slip_said b c s key l e = lines_said 1 (slip_lines s) b c key (left_standing b l Block).rising (all_lines s b c e)

-- a run -------------------------------------------------------------------------------------------------------------------

brought_more : (ls ms : List Bytes) → all_brought (ls ++ ms) ≡ all_brought ls ++ all_brought ms
unfolding all_brought
brought_more [] ms = refl
brought_more (l ∷ ls) ms = rw (brought_more ls ms, append_assoc)

taken_more : (i : ℕ) (ls ms : List Bytes) (b c : Book) → lines_posted i ls b ≡ leaves c → all_taken (ls ++ ms) b ≡ all_taken ls b ++ all_taken ms c
unfolding all_taken lines_posted
taken_more i [] ms b c e = let f : b ≡ c = cc in ap (λ (z : Book). all_taken ms z) f
taken_more i (l ∷ ls) ms b c e = rw (taken_more (suc i) ls ms (slip_leaves l b) c (passing i l ls b c e).1, append_assoc)

said_more : (key : Row) (ls ms : List Bytes) (old : Row) → last_said key (ls ++ ms) old ≡ last_said key ms (last_said key ls old)
unfolding last_said
said_more key [] ms old = refl
said_more key (l ∷ ls) ms old = said_more key ls ms (whether same_key 4 key (row_in l) then says (wish (fields l)) (row_in l) old else old)

abbrev lines_of : Result → Bytes → List Bytes
lines_of r s = whether accepted r then slip_lines s else []

run_stores : (many : List Row → ℕ) → Weighs many → RunStores run many
unfolding run honoured all_taken all_brought
run_stores many h b [] = refl
run_stores many h b (s ∷ ss) = go (posting s b) refl (run_stores many h (posted s b) ss)
  where
    go : (r : Result) → posting s b ≡ r →
        many (run ss (kept b r)).blocks + many (all_taken (honoured ss (kept b r)) (kept b r)) ≡ many (kept b r).blocks + many (all_brought (honoured ss (kept b r))) →
        many (run ss (kept b r)).blocks + many (all_taken (lines_of r s ++ honoured ss (kept b r)) b)
        ≡ many b.blocks + many (all_brought (lines_of r s ++ honoured ss (kept b r)))
    go (refused p) e ih = ih
    go (leaves c) e ih =
        let on : lines_posted 1 (slip_lines s) b ≡ leaves c = all_lines s b c e in
        let ms : List Bytes = honoured ss c in
        omega (
          arith,
          ih,
          slip_stores many h b c s e,
          ap many (taken_more 1 (slip_lines s) ms b c on),
          many_more many h (all_taken (slip_lines s) b) (all_taken ms c),
          ap many (brought_more (slip_lines s) ms),
          many_more many h (all_brought (slip_lines s)) (all_brought ms),
        )

pub rows_stored : RowsStored
rows_stored row = let h = copies_weighs row in (line_stores (copies row) h, slip_stores (copies row) h, run_stores (copies row) h)

pub shares_stored : SharesStored
shares_stored weight version type =
    let many = total weight version type in
    let h = total_weighs weight version type in
    (line_stores many h, slip_stores many h, run_stores many h)

pub run_said : RunSaid
unfolding run honoured last_said
run_said b [] key l = refl
run_said b (s ∷ ss) key l = go (posting s b) refl (run_said (posted s b) ss key (rule_kept b s l))
  where
    go : (r : Result) → posting s b ≡ r →
        found 4 key (run ss (kept b r)).blocks ≡ last_said key (honoured ss (kept b r)) (found 4 key (kept b r).blocks) →
        found 4 key (run ss (kept b r)).blocks ≡ last_said key (lines_of r s ++ honoured ss (kept b r)) (found 4 key b.blocks)
    go (refused p) e ih = ih
    go (leaves c) e ih =
        ih
        ∙ ap (λ (z : Row). last_said key (honoured ss c) z) (slip_said b c s key l e)
        ∙ sym (said_more key (slip_lines s) (honoured ss c) (found 4 key b.blocks))

-- behind calls ------------------------------------------------------------------------------------------------------------

-- a row that stands has numbers
some_numbers : (row : Row) → Eleven row → none row ≡ false
some_numbers row (eleven a b c d e f g h i j k) = refl

none_found : (b : Book) (key : Row) (xs : List Row) → EachGood Block b xs → not (stands 4 key xs) ≡ none (found 4 key xs)
unfolding stands found EachGood
none_found b key [] h = refl
none_found b key (x ∷ xs) h = go (same_key 4 key x) refl (none_found b key xs h.1)
  where
    good : Good Block b x
    good = h.0

    go : (q : Bool) → same_key 4 key x ≡ q → not (stands 4 key xs) ≡ none (found 4 key xs) → not (stands 4 key (x ∷ xs)) ≡ none (found 4 key (x ∷ xs))
    go true e ih = rw e (sym (some_numbers x (good_eleven Block x good.shape)))
    go false e ih = rw e ih

pub calls_said : CallsSaid
calls_said k ed d b ss book work version day depot block a e m n =
    let key : Row = version ∷ day ∷ depot ∷ block ∷ [] in
    let c : Book = run ss b in
    let st : Standing c = left_standing c (ed, (with_blocks (written c) d, run_reads_afresh ed d b ss e)) in
    let row : found 4 key c.blocks ≡ last_said key (honoured ss b) (found 4 key (rows_of ed Block d.blocks)) =
    run_said b ss key (ed, (d, e)) ∙ ap (λ (z : Row). last_said key (honoured ss b) z) (keys_exactly ed d b Block key e).1 in
    ap (λ (z : List Row). block_call z version day depot block) (calls_read_afresh k ed d b ss book work a e m n).0
    ∙ block_asked c st version day depot block
    ∙ ap (λ (q : Bool). block_answered (nowhere (not_there when q)) (seven (found 4 key c.blocks))) (none_found c key c.blocks (st Block).good)
    ∙ ap (λ (z : Row). block_answered (nowhere (not_there when none z)) (seven z)) row

-- the year's fault
pub years_fault_ruled_out : YearsFaultRuledOut
years_fault_ruled_out k ed d b ss book work version type a e m n there =
    let c : Book = run ss b in
    let st : Standing c = left_standing c (ed, (with_blocks (written c) d, run_reads_afresh ed d b ss e)) in
    let key : Row = version ∷ type ∷ [] in
    let known : stands 2 key c.types ≡ true =
    ap (λ (xs : List Row). stands 2 key xs) (other_tables_kept b ss (ed, (d, e))).0 ∙ (keys_exactly ed d b VehicleType key e).0 ∙ there in
    let asked : type_call (slips_called ss (read_call k d book).book work) version type
    ≡ record { verdict = Ok tt; seconds = seconds_of version type c.blocks; count = count_of version type c.blocks } =
    ap (λ (z : List Row). type_call z version type) (calls_read_afresh k ed d b ss book work a e m n).0
    ∙ type_asked c st version type
    ∙ ap (λ (q : Bool). type_answered (nowhere (not_there when not q)) (seconds_of version type c.blocks) (count_of version type c.blocks)) known in (
      moved seconds (ap (λ (x : TypeAnswer). x.seconds) asked),
      moved (λ x. 1) (ap (λ (x : TypeAnswer). x.count) asked),
    )
  where
    moved : (weight : Row → ℕ) → {n : ℕ} → n ≡ total weight version type (run ss b).blocks →
        n + total weight version type (all_taken (honoured ss b) b) ≡ total weight version type (rows_of ed Block d.blocks) + total weight version type (all_brought (honoured ss b))
    moved weight f = omega (arith, f, (shares_stored weight version type).2 b ss, weighed_exactly ed d b Block (total weight version type) (total_weighs weight version type) e)
