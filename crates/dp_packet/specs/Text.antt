-- The text of a packet.
use Rattle.std.specs.Prelude.{◌++◌, codes}
use Rattle.dp_markup.specs.Texts.{written}
use Rattle.dp_packet.specs.declared.packet.Packet.{Packet}
use Rattle.dp_packet.specs.Parts.{Text}
use Rattle.dp_packet.specs.Packets.{element_of}

-- with a line feed at its end
abbrev pub declaration : Text
declaration = codes "<?xml version=\"1.0\" encoding=\"iso-8859-1\"?>\n"

-- the declaration, and the canonical text of the packet's element
abbrev pub text : Packet → Text
text p = declaration ++ written (element_of p)
