-- What request 3/13, the delivery by radio, asks, as statements over the definitions. To be read behind Promises.
use Rattle.std.specs.Prelude.{◌≡◌, List, [], ◌∷◌, ◌++◌, true, false, ◌⊎◌, ◌↔◌, ℕ, eqb, length, Some, None, Ok, Err}
use Rattle.words.specs.Words.{Bytes}
use Rattle.refusals.specs.Verdicts.{paper, Verdict}
use Rattle.refusals.specs.declared.Place.{Place}
use Rattle.editions.specs.Editions.{choice}
use Rattle.editions.specs.declared.Edition.{Edition}
use Rattle.tables.specs.Columns.{number}
use Rattle.tables.specs.declared.Table.{Table}
use Rattle.tables.specs.declared.Table.TheVariants.{VehicleType, Depot, Stop, StopPoint, Block, Calendar}
use Rattle.book.specs.Book.{Book}
use Rattle.book.specs.Room.{laid}
use Rattle.book.specs.Result.{Result, refused, leaves, ◌▹◌}
use Rattle.keeping.specs.Keeping.{keeps_rule}
use Rattle.delivery.specs.Delivery.{Delivery, reading}
use Rattle.delivery.specs.Calls.{read_outcome}
use Rattle.radio.specs.Radio.{heard, Sending, hearing, stopped, Radio, awaits, hears, over, Call, announce, part, close, start, next, after, in_turn, answer, verdict_of, standing}
use Rattle.radio.specs.Rule.{lawful_radio}
use Rattle.radio.specs.Room.{Slices, Outcome, outcome, laid_out, radio_in, fits, keeps_radio, radio_call, open_call}
use Rattle.promises.specs.Promises.{unplaced}

-- calls one after another ---------------------------------------------------------------------------------------------------

-- what is kept behind them
unfoldable pub run : List Call → Radio → Radio
run [] k = k
run (c ∷ cs) k = run cs (after c k)

-- a table in parts, and its close
unfoldable pub parts : List Bytes → List Call
parts [] = close ∷ []
parts (p ∷ ps) = part p ∷ parts ps

unfoldable pub joined : List Bytes → Bytes
joined [] = []
joined (p ∷ ps) = p ++ joined ps

-- the calls of a table, and of a whole delivery
abbrev pub calls_for : (Table → ℕ) → (Table → List Bytes) → Table → List Call
calls_for a ps t = announce (a t) ∷ parts (ps t)

unfoldable pub calls_of : (Table → ℕ) → (Table → List Bytes) → List Call
calls_of a ps = calls_for a ps VehicleType ++ (calls_for a ps Depot ++ (calls_for a ps Stop ++ (calls_for a ps StopPoint ++ (calls_for a ps Block ++ calls_for a ps Calendar))))

-- the whole reading, however it was cut ----------------------------------------------------------------------------------------

-- "cut anywhere, even between a quote and its double"
abbrev pub PartsJoin : Type 0
PartsJoin = (p q : Bytes) (k : Radio) → after (part (p ++ q)) k ≡ after (part q) (after (part p) k)

-- "An empty part changes nothing."
abbrev pub EmptyPart : Type 0
EmptyPart = (k : Radio) → after (part []) k ≡ k

-- a fault that stands is not one of this table
abbrev pub Clear : Table → Result → Type 0
Clear t (refused p) = eqb p.table (number t) ≡ false
Clear t (leaves b) = Unit {0}

-- a table that is announced, comes in parts and is closed: it comes to what `heard` says of its bytes joined
abbrev pub TableHeard : Type 0
TableHeard = (t : Table) (a : ℕ) (ps : List Bytes) (r : Result) → Clear t r → run (announce a ∷ parts ps) (awaits t r) ≡ next t (r ▹ heard t a (joined ps))

-- so do all tables
unfoldable pub sending_of : (Table → ℕ) → (Table → List Bytes) → Sending
sending_of a ps = record { announced = a; sent = λ t. joined (ps t) }

abbrev pub DeliveryHeard : Type 0
DeliveryHeard = (e : Edition) (a : Table → ℕ) (ps : Table → List Bytes) → run (calls_of a ps) (start e) ≡ over (hearing e (sending_of a ps))

-- "When the announced bytes have come, verdict, place and book are those of the whole reading"
abbrev pub delivery_of : Sending → Delivery
delivery_of d = record { types = d.sent VehicleType; depots = d.sent Depot; stops = d.sent Stop; points = d.sent StopPoint; blocks = d.sent Block; days = d.sent Calendar }

abbrev pub HeardAsRead : Type 0
HeardAsRead = (e : Edition) (d : Sending) → ((t : Table) → d.announced t ≡ length (d.sent t)) → hearing e d ≡ reading e (delivery_of d)

-- behind a fault ----------------------------------------------------------------------------------------------------------------

-- "After a fault, later parts are taken and change no answer"
abbrev pub FaultStays : Type 0
FaultStays = (t : Table) (a n : ℕ) (p : Place) (s : Bytes) → standing (after (part s) (hears t a n (stopped p))) ≡ refused p

-- "but 18 may still come": in place of a fault of the same table, and so may 1, which is "before 18"
abbrev pub MayAnswer : Table → Place → Verdict → Type 0
MayAnswer t p v = (v ≡ Err p) ⊎ ((p.table ≡ number t) × ((paper v ≡ 18 ∷ number t ∷ 0 ∷ 0 ∷ []) ⊎ (paper v ≡ 1 ∷ number t ∷ 0 ∷ 0 ∷ [])))

abbrev pub FaultAnswers : Type 0
FaultAnswers = (t : Table) (a n : ℕ) (p : Place) (ps : List Bytes) → MayAnswer t p (verdict_of (standing (run (parts ps) (hears t a n (stopped p)))))

-- a fault of a table that is closed stands through all later ones, whatever is announced and comes
abbrev pub FaultEnds : Type 0
FaultEnds = (t : Table) (a : ℕ) (ps : List Bytes) (p : Place) → eqb p.table (number t) ≡ false → run (announce a ∷ parts ps) (awaits t (refused p)) ≡ next t (refused p)

-- "a call out of turn is 15 and does nothing"
abbrev pub OutOfTurn : Type 0
OutOfTurn = (c : Call) (k : Radio) → in_turn c k ≡ false → (after c k ≡ k) × (paper (answer c k) ≡ unplaced 15)

-- the rule ------------------------------------------------------------------------------------------------------------------------

-- "has a rule of its own, which every call keeps"
abbrev pub RadioKept : Type 0
RadioKept = (c : Call) (k : Radio) → lawful_radio k ≡ true → lawful_radio (after c k) ≡ true

-- "none that keeps the rule closes with a book that breaks the book rule"
abbrev pub ClosesLawful : Type 0
ClosesLawful = (c : Call) (k : Radio) (b : Book) → lawful_radio k ≡ true → standing (after c k) ≡ leaves b → keeps_rule (laid b) ≡ true

-- the lent slices ------------------------------------------------------------------------------------------------------------------

-- their rule holds exactly of what is laid out of something that keeps it
abbrev pub SlicesTested : Type 0
SlicesTested = (s : Slices) → (keeps_radio s ≡ true) ↔ ((k : Radio) × (lawful_radio k ≡ true) × (s ≡ laid_out k))

-- what is laid out is found again
abbrev pub FoundAgain : Type 0
FoundAgain = (k : Radio) → lawful_radio k ≡ true → radio_in (laid_out k) ≡ k

-- "which every call keeps"
abbrev pub CallsKeep : Type 0
CallsKeep = (c : Call) (s : Slices) → keeps_radio s ≡ true → keeps_radio (radio_call c s).slices ≡ true

-- 16 "stays as it came", and 15 "does nothing": no call gives one of these numbers and changes what is lent, whatever it was handed
abbrev pub RefusalStays : Type 0
RefusalStays = (c : Call) (s : Slices) (p : Place) → (radio_call c s).verdict ≡ Err p → (p.number ≡ 15) ⊎ (p.number ≡ 16) → (radio_call c s).slices ≡ s

-- "none that keeps the rule closes with a book that breaks the book rule"
abbrev pub CallsLawful : Type 0
CallsLawful = (c : Call) (s : Slices) → keeps_radio s ≡ true → keeps_rule (radio_call c s).slices.book ≡ true

-- the last answer of a run of calls; before the first it is v
unfoldable pub last_answer : Verdict → List Call → Radio → Verdict
last_answer v [] k = v
last_answer v (c ∷ cs) k = last_answer (answer c k) cs (after c k)

-- a run of calls on the slices: the last answer, and what they hold
unfoldable pub called : Verdict → List Call → Slices → Outcome
called v [] s = outcome v s
called v (c ∷ cs) s = called (radio_call c s).verdict cs (radio_call c s).slices

-- "an unknown edition is 22, right after 16": and an earlier delivery may go on
abbrev pub UnknownOpeningStays : Type 0
UnknownOpeningStays = (n : ℕ) (s : Slices) → choice n ≡ None → fits s ≡ true → (paper (open_call n s).verdict ≡ unplaced 22) × ((open_call n s).slices ≡ s)

-- from the opening on, it is the run on what the slices keep
abbrev pub CallsRun : Type 0
CallsRun = (n : ℕ) (e : Edition) (cs : List Call) (s : Slices) → choice n ≡ Some e → fits s ≡ true →
    called (Ok tt) cs (open_call n s).slices ≡ outcome (last_answer (Ok tt) cs (start e)) (laid_out (run cs (start e)))

-- "When the announced bytes have come, verdict, place and book are those of the whole reading, however it was cut."
abbrev pub RadioReads : Type 0
RadioReads = (n : ℕ) (e : Edition) (a : Table → ℕ) (ps : Table → List Bytes) (s : Slices) → choice n ≡ Some e → fits s ≡ true → ((t : Table) → a t ≡ length (joined (ps t))) →
    let o = called (Ok tt) (calls_of a ps) (open_call n s).slices in
    let r = reading e (delivery_of (sending_of a ps)) in
    (o.verdict ≡ (read_outcome r).verdict) × (o.slices.book ≡ (read_outcome r).book)
