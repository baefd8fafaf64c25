-- The number that an argument of a component says, whatever its width and sign.
use Rattle.std.specs.Prelude.{ℤ, pos}
use Rattle.glyph.specs.declared.component.CompositeGlyphArgument.{CompositeGlyphArgument}
use Rattle.glyph.specs.declared.component.CompositeGlyphArgument.TheVariants.{I16, I8, U16, U8}

abbrev pub number_of_argument : CompositeGlyphArgument → ℤ
number_of_argument (U8 n) = pos n
number_of_argument (I8 z) = z
number_of_argument (U16 n) = pos n
number_of_argument (I16 z) = z
