use mathlib.Core.Path.{◌≡◌, refl, ap, ◌∙◌}
use Rattle.words.specs.Words.{Bytes}
use Rattle.editions.specs.declared.Edition.{Edition}
use Rattle.tables.specs.declared.Table.TheVariants.{VehicleType, Depot, Stop, StopPoint, Block, Calendar}
use Rattle.book.specs.Result.{Result, ◌▹◌}
use Rattle.book.specs.Room.{book_of}
use Rattle.book.specs.Book.{Book, empty_by}
use Rattle.rules.proofs.Points.{begun_named}
use Rattle.table_reading.specs.Reading.{table_read}
use Rattle.delivery.specs.Delivery.{reading}
use Rattle.delivery.specs.Calls.{delivery}
use Rattle.delivery.proofs.take_tables.Goals as goal

whole : (x : Edition) (a b d e f g : Bytes) →
    (table_read VehicleType a (empty_by x) ▹ table_read Depot b ▹ table_read Stop d ▹ table_read StopPoint e ▹ table_read Block f ▹ table_read Calendar g) ≡ reading x (delivery a b d e f g)
unfolding reading
whole x a b d e f g = refl

pub take_table-a-requires : goal.take_table-a-requires
take_table-a-requires c =
    let st = c in
    (st.requires.0, begun_named _ (book_of st.args.book.now) st.requires.1)

pub then_table-b-requires : goal.then_table-b-requires
then_table-b-requires c = (c.take_table-a.ensures.0, c.take_table-a.ensures.2)

pub then_table-c-requires : goal.then_table-c-requires
then_table-c-requires c = (c.then_table-b.ensures.0, c.then_table-b.ensures.2)

pub then_table-d-requires : goal.then_table-d-requires
then_table-d-requires c = (c.then_table-c.ensures.0, c.then_table-c.ensures.2)

pub then_table-e-requires : goal.then_table-e-requires
then_table-e-requires c = (c.then_table-d.ensures.0, c.then_table-d.ensures.2)

pub then_table-requires : goal.then_table-requires
then_table-requires c = (c.then_table-e.ensures.0, c.then_table-e.ensures.2)

pub returns : goal.returns
returns c =
    let blocks = c in
    let points = blocks in
    let stops = points in
    let depots = stops in
    let types = depots in
    let st = types in
    let days-read = table_read Calendar st.args.days.now in
    let blocks-read = table_read Block st.args.blocks.now in
    let points-read = table_read StopPoint st.args.points.now in
    let stops-read = table_read Stop st.args.stops.now in
    let depots-read = table_read Depot st.args.depots.now in (
      c.then_table.ensures.0,
      c.then_table.ensures.1
          ∙ ap (λ (r : Result). r ▹ days-read) blocks.then_table-e.ensures.1
          ∙ ap (λ (r : Result). r ▹ blocks-read ▹ days-read) points.then_table-d.ensures.1
          ∙ ap (λ (r : Result). r ▹ points-read ▹ blocks-read ▹ days-read) stops.then_table-c.ensures.1
          ∙ ap (λ (r : Result). r ▹ stops-read ▹ points-read ▹ blocks-read ▹ days-read) depots.then_table-b.ensures.1
          ∙ ap (λ (r : Result). r ▹ depots-read ▹ stops-read ▹ points-read ▹ blocks-read ▹ days-read) types.take_table-a.ensures.1
          ∙ ap (λ (b : Book). table_read VehicleType st.args.types.now b ▹ depots-read ▹ stops-read ▹ points-read ▹ blocks-read ▹ days-read) st.requires.1
          ∙ whole _ st.args.types.now st.args.depots.now st.args.stops.now st.args.points.now st.args.blocks.now st.args.days.now,
    )
