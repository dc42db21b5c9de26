-- Examples of a save: one U16 Variable 6000h with access ReadWriteStore.
-- Assumes nothing.
use Rattle.std.specs.Prelude.{ℕ, ◌≡◌, refl, List, [], ◌∷◌, Some, None, Ok, Err}
use Rattle.answers.specs.declared.Refusal.TheVariants.{StoreFull}
use Rattle.lists.specs.Lists.{over}
use Rattle.lists.specs.Numbers.{number, bytes_of}
use Rattle.value.specs.Codec.{size_of, encoding, word_at, exactly_of, exact}
use Rattle.entry.specs.Table.{Dict, dict}
use Rattle.image.specs.Image.{to_store, offers, sub_in, recs_in, offered_from, heads, bodies, image_of, offered}
use Rattle.image.specs.Ranges.{range_of, covers}
use Rattle.commands.specs.Save.{fits, after_save, save_of}
use Rattle.image.specs.Readable.{placed, heads_ok, recs_at, readable, table_of}

abbrev pub d : Dict
d =
    dict (1 ∷ 1 ∷ 0 ∷ 1 ∷ 0 ∷ 0 ∷ 0 ∷ 0 ∷ 0 ∷ 0 ∷ 0 ∷ 0 ∷ 0x6000 ∷ 0 ∷ 4 ∷ 1 ∷ 0 ∷ 0 ∷ 0 ∷ 0 ∷ 0 ∷ 0 ∷ 0 ∷ 0 ∷ []) (6 ∷ 0 ∷ 0 ∷ []) (0x1234 ∷ []) []

abbrev pub image : List ℕ
image = 1 ∷ 0 ∷ 0x00 ∷ 0x60 ∷ 0 ∷ 6 ∷ 0 ∷ 0 ∷ 2 ∷ 0 ∷ 0x34 ∷ 0x12 ∷ []

-- the byte behind the image stays
pub stored : save_of d (9 ∷ 9 ∷ 9 ∷ 9 ∷ 9 ∷ 9 ∷ 9 ∷ 9 ∷ 9 ∷ 9 ∷ 9 ∷ 9 ∷ 9 ∷ []) 3 ≡ after_save (Ok tt) (1 ∷ 0 ∷ 0x00 ∷ 0x60 ∷ 0 ∷ 6 ∷ 0 ∷ 0 ∷ 2 ∷ 0 ∷ 0x34 ∷ 0x12 ∷ 9 ∷ [])
unfolding save_of fits image_of heads bodies offered_from recs_in range_of covers to_store offers sub_in over bytes_of encoding size_of
stored = refl

-- a byte less
pub full : save_of d (9 ∷ 9 ∷ 9 ∷ 9 ∷ 9 ∷ 9 ∷ 9 ∷ 9 ∷ 9 ∷ 9 ∷ 9 ∷ []) 1 ≡ after_save (Err StoreFull) (9 ∷ 9 ∷ 9 ∷ 9 ∷ 9 ∷ 9 ∷ 9 ∷ 9 ∷ 9 ∷ 9 ∷ 9 ∷ [])
unfolding save_of fits image_of heads bodies offered_from recs_in range_of covers to_store offers sub_in over bytes_of encoding size_of
full = refl

-- list 2 has none of it, and list 4 nothing: an empty table
pub elsewhere : save_of d (9 ∷ 9 ∷ 9 ∷ []) 2 ≡ after_save (Ok tt) (0 ∷ 0 ∷ 9 ∷ [])
unfolding save_of fits image_of heads bodies offered_from recs_in range_of covers to_store offers sub_in over bytes_of encoding size_of
elsewhere = refl

pub nothing : save_of d (9 ∷ 9 ∷ 9 ∷ []) 4 ≡ after_save (Ok tt) (0 ∷ 0 ∷ 9 ∷ [])
unfolding save_of fits image_of heads bodies offered_from recs_in range_of covers to_store offers sub_in over bytes_of encoding size_of
nothing = refl

-- it is read back; a start that is no sum of lengths makes it unreadable
pub table : table_of image ≡ Some (offered d 1)
unfolding table_of readable heads_ok recs_at placed exact exactly_of word_at number size_of offered_from recs_in range_of covers to_store offers sub_in bytes_of encoding
table = refl

pub no_table : table_of (1 ∷ 0 ∷ 0x00 ∷ 0x60 ∷ 0 ∷ 6 ∷ 1 ∷ 0 ∷ 2 ∷ 0 ∷ 0x34 ∷ 0x12 ∷ []) ≡ None
unfolding table_of readable heads_ok recs_at placed exact exactly_of word_at number size_of
no_table = refl
