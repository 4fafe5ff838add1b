-- The whole case of document 01, with the points 20/1 and 31/2 and "a calendar of its header alone".
use Rattle.std.specs.Prelude.{◌≡◌, []}
use Rattle.words.specs.Words.{bytes, Bytes}
use Rattle.editions.specs.declared.Edition.TheVariants.{Dino21}
use Rattle.delivery.specs.Delivery.{Delivery}
use Rattle.promises.specs.Sheet.{sheet}

abbrev pub delivery : Delivery
delivery =
    record {
      types = bytes "VERSION;VEH_TYPE_NR;VEH_TYPE_TEXT\n1;4;\"solo; low floor\"\n1;7;\"joint \"\"old\"\"\"\n";
      depots = bytes "VERSION;DEPOT_NR\n1;3\n";
      stops = bytes "VERSION;STOP_NR;STOP_NAME\n1;20;Yard\n1;31;Mill\n";
      points = bytes "VERSION;STOP_NR;STOPPING_POINT_NR\n1;20;1\n1;31;2\n";
      blocks = bytes "VERSION;DAY_TYPE_NR;DEPOT_NR;BLOCK_NR;VEH_TYP_NR;DEP_STOP_NR;DEP_STOPPING_POINT_NR;BEGIN_OF_BLOCK;ARR_STOP_NR;ARR_STOPPING_POINT_NR;END_OF_BLOCK\n1;5;3;101;4;20;1;18000;31;2;46800\n1;5;3;102;7;31;2;21600;20;1;25201\n1;6;3;101;4;20;1;80000;20;1;90000\n";
      days = bytes "VERSION;DAY;DAY_TYPE_NR\n";
    }

abbrev pub slip : Bytes
slip = bytes "R\t1\t5\t3\t102\t4\t31\t2\t21600\t20\t1\t25200\nD\t1\t6\t3\t101\n"

-- the day sheet with its slip
abbrev pub WholeCase : Type 0
WholeCase = sheet Dino21 delivery slip ≡ bytes "T\t1\t4\t32400\t2\nT\t1\t7\t0\t0\nS\t2\t2\n"

-- "With an empty slip: 38800 and 2; 3601 and 1; `S 2 3`."
abbrev pub WholeCaseEmptySlip : Type 0
WholeCaseEmptySlip = sheet Dino21 delivery [] ≡ bytes "T\t1\t4\t38800\t2\nT\t1\t7\t3601\t1\nS\t2\t3\n"
