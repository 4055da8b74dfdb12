-- The disk of the code as a definition's disk. Definitions only.
use Rattle.data.specs.Data.{DiskData, disk_of}
use Rattle.data.specs.declared.Disk.{Disk}

-- the disk that the code's struct holds
abbrev pub the_disk : Disk → DiskData
the_disk d = disk_of d.val_energy d.xs.now d.ys.now d.vals_centered.now d.grad_angles.now d.grad_weights.now
