-- What a shelf has in hand.
use Rattle.odb_outside.specs.declared.shelf.Hand.{Hand}
use Rattle.odb_outside.specs.declared.shelf.Hand.TheVariants as hand
use Rattle.odb.specs.declared.folder_shelf.InHand.{InHand}
use Rattle.odb.specs.declared.folder_shelf.InHand.TheVariants as file

-- whether a file is in hand, and to be read or written
abbrev pub hand_of : {T : Type 0} → InHand T → Hand
hand_of file.Nothing = hand.Nothing
hand_of (file.Reading f) = hand.Reading
hand_of (file.Writing f) = hand.Writing
