-- The name stands among the files that are left where it stands among all.
use Rattle.std.proofs.Common.{◌≡◌, ◌-◌, ◌≤◌, length, drop}
use Rattle.odb_outside.specs.Placing.{place_in}
use Rattle.odb_outside.proofs.files.MemoryFiles.scan.Given as goal

abbrev pub invariant-files : goal.invariant-files
invariant-files l =
    record {
      within : l.at ≤ length l.self;
      same : place_in l.name (drop l.at l.self) l.at ≡ place_in l.name l.self 0;
    }

abbrev pub decreases-files : goal.decreases-files
decreases-files l = length l.self - l.at
