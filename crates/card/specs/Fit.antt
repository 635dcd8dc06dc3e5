-- What is known of a fit card, as plain facts for the functions that work on one.
use Rattle.std.specs.Prelude.{◌≡◌, ◌≤◌, true, length, slice_index_or}
use Rattle.card.specs.Layout.{Card, ia_at, love_address_at, word_count, memory_size, row_size}
use Rattle.card.specs.Change.{fit_pending}
use Rattle.card.specs.Fitness.{fit_words, ia_most, love_address_most}

pub record Fit (card : Card) : Type 0 where
  pub words_length : length card.words ≡ word_count
  pub memory_length : length card.memory ≡ memory_size
  pub ports_length : length card.ports ≡ row_size
  pub words_fit : fit_words card.words ≡ true
  pub pending_fit : fit_pending card.ports ≡ true
  pub ia : slice_index_or card.words ia_at 0 ≤ ia_most
  pub love_address : slice_index_or card.words love_address_at 0 ≤ love_address_most
