-- the keys that lines have, and lists of them
use Rattle.std.specs.Prelude.{ℕ, List, Bool, ◌||◌, ◌==◌, not, map, codes}
use Rattle.std.specs.Int.Bits.{bit_and}
use Rattle.std.specs.List.{list_any}
use Rattle.std.specs.Str.{bytes_eq}
use Rattle.tg_wire.specs.declared.key.Key.{Key}
use Rattle.tg_wire.specs.declared.key.Key.TheVariants as key

abbrev pub key_text : Key → List ℕ
key_text key.Op = codes "op"
key_text key.Seat = codes "seat"
key_text key.Actor = codes "actor"
key_text key.Agent = codes "agent"
key_text key.Over = codes "over"
key_text key.From = codes "from"
key_text key.To = codes "to"
key_text key.At = codes "at"
key_text key.Rights = codes "rights"
key_text key.Kind = codes "kind"
key_text key.Text = codes "text"
key_text key.Name = codes "name"
key_text key.Principals = codes "principals"
key_text key.Edges = codes "edges"
key_text key.Next = codes "next"
key_text key.Slots = codes "slots"
key_text key.Cells = codes "cells"

-- its place among all keys, counted from 0
abbrev pub key_place : Key → ℕ
key_place key.Op = 0
key_place key.Seat = 1
key_place key.Agent = 2
key_place key.Over = 3
key_place key.From = 4
key_place key.To = 5
key_place key.At = 6
key_place key.Rights = 7
key_place key.Kind = 8
key_place key.Text = 9
key_place key.Name = 10
key_place key.Actor = 11
key_place key.Principals = 12
key_place key.Edges = 13
key_place key.Next = 14
key_place key.Slots = 15
key_place key.Cells = 16

abbrev pub key_texts : List Key → List (List ℕ)
key_texts keys = map key_text keys

abbrev pub is_listed : List ℕ → List Key → Bool
is_listed text keys = list_any (λ key. bytes_eq text (key_text key)) keys

abbrev pub is_listed_in_either : List Key → List Key → List ℕ → Bool
is_listed_in_either a b text = is_listed text a || is_listed text b

-- a key's bit in a set of keys
abbrev pub key_bit : Key → ℕ
key_bit key.Op = 1
key_bit key.Seat = 2
key_bit key.Agent = 4
key_bit key.Over = 8
key_bit key.From = 16
key_bit key.To = 32
key_bit key.At = 64
key_bit key.Rights = 128
key_bit key.Kind = 256
key_bit key.Text = 512
key_bit key.Name = 1024
key_bit key.Actor = 2048
key_bit key.Principals = 4096
key_bit key.Edges = 8192
key_bit key.Next = 16384
key_bit key.Slots = 32768
key_bit key.Cells = 65536

abbrev pub is_in_set : ℕ → Key → Bool
is_in_set set key = not (bit_and set (key_bit key) == 0)
