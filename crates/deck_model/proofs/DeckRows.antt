-- Small decks, computed: what they say, and the line and the cause for which others are rejected.
use Rattle.std.proofs.Common.{◌≡◌, ℕ, List, [], ◌∷◌, ◌++◌, replicate, refl}
use Rattle.std.specs.Prelude.{codes}
use Rattle.std.specs.Fmt.{digits}
use Rattle.monitor_calls.specs.declared.names.Account.{Account}
use Rattle.monitor_calls.specs.declared.volumes.AccountEntry.{AccountEntry}
use Rattle.monitor_calls.specs.FileNames.{same_name}
use Rattle.deck_model.specs.declared.faults.DeckCause.TheVariants.{Cut, Version, Shape, Range, Double, Owner, Space}
use Rattle.deck_model.specs.Lines.{whole_lines, cut_line}
use Rattle.deck_model.specs.Reading.{verdict, reading, Yields, Refuses, behind_line, behind_form, form_at, version_in, disk_in, account_in, texts_in, file_in, file_texts_in, groups_in, contents_in, session_in, terminal_in, keys_in, block_in, end_in}
use Rattle.deck_model.specs.Hex.{is_hex, hex_bytes}
use Rattle.deck_model.specs.Files.{file_entry, block_of, pages_of}

abbrev front : List ℕ
front = codes "RSTS-DECK 1\nDISK 2\nACCOUNT 100,5 DEMO 9\n"

abbrev owner : Account
owner = record { project = 100; programmer = 5 }

abbrev entries : List AccountEntry
entries = record { account = owner; password = codes "DEMO"; limit = 9; quota = 2 } ∷ []

-- one file of two blocks with two lines, and a terminal with a line of keys
a_deck : verdict (front ++ codes "FILE [100,5]A.B<60> 1\n>10 END\n>\nTERMINAL T1\n>BYE\nEND\n")
    ≡ Yields (record {
      blocks = 2;
      accounts = entries;
      files = file_entry (record {
        name = record { owner = owner; stem = codes "A"; extension = codes "B" };
        code = 60;
        blocks = 1;
        content = codes "10 END\r\n\r\n";
      }) ∷ [];
      terminals = record { name = codes "T1"; keys = codes "BYE" ∷ [] } ∷ [];
    })
unfolding digits verdict reading whole_lines cut_line behind_line behind_form form_at version_in disk_in account_in texts_in file_in file_texts_in groups_in contents_in session_in terminal_in keys_in block_in end_in is_hex hex_bytes same_name
a_deck = refl

unknown_owner : verdict (front ++ codes "FILE [100,6]A<60> 1\n") ≡ Refuses 4 Owner
unfolding digits verdict reading whole_lines cut_line behind_line behind_form form_at version_in disk_in account_in texts_in file_in file_texts_in groups_in contents_in session_in terminal_in keys_in block_in end_in is_hex hex_bytes same_name
unknown_owner = refl

beyond_the_disk : verdict (front ++ codes "FILE [100,5]A<60> 3\n") ≡ Refuses 4 Space
unfolding digits verdict reading whole_lines cut_line behind_line behind_form form_at version_in disk_in account_in texts_in file_in file_texts_in groups_in contents_in session_in terminal_in keys_in block_in end_in is_hex hex_bytes same_name
beyond_the_disk = refl

no_room_for_a_line : verdict (front ++ codes "FILE [100,5]A<60> 0\n>\n") ≡ Refuses 5 Space
unfolding digits verdict reading whole_lines cut_line behind_line behind_form form_at version_in disk_in account_in texts_in file_in file_texts_in groups_in contents_in session_in terminal_in keys_in block_in end_in is_hex hex_bytes same_name
no_room_for_a_line = refl

given_twice : verdict (front ++ codes "FILE [100,5]A<60> 1\nFILE [100,5]A<0> 9\n") ≡ Refuses 5 Double
unfolding digits verdict reading whole_lines cut_line behind_line behind_form form_at version_in disk_in account_in texts_in file_in file_texts_in groups_in contents_in session_in terminal_in keys_in block_in end_in is_hex hex_bytes same_name pages_of
given_twice = refl

no_extension : verdict (front ++ codes "FILE [100,5]A.<60> 1\n") ≡ Refuses 4 Range
unfolding digits verdict reading whole_lines cut_line behind_line behind_form form_at version_in disk_in account_in texts_in file_in file_texts_in groups_in contents_in session_in terminal_in keys_in block_in end_in is_hex hex_bytes same_name
no_extension = refl

cut_in_a_text : verdict (front ++ codes "FILE [100,5]A<60> 1\n>10") ≡ Refuses 5 Cut
unfolding digits verdict reading whole_lines cut_line behind_line behind_form form_at version_in disk_in account_in texts_in file_in file_texts_in groups_in contents_in session_in terminal_in keys_in block_in end_in is_hex hex_bytes same_name
cut_in_a_text = refl

account_behind_a_file : verdict (front ++ codes "FILE [100,5]A<60> 1\nACCOUNT 1,2 A 1\n") ≡ Refuses 5 Shape
unfolding digits verdict reading whole_lines cut_line behind_line behind_form form_at version_in disk_in account_in texts_in file_in file_texts_in groups_in contents_in session_in terminal_in keys_in block_in end_in is_hex hex_bytes same_name
account_behind_a_file = refl

-- version 2

abbrev second : List ℕ
second = codes "RSTS-DECK 2\nDISK 8\n"

quotas_are_told : verdict (second ++ codes "ACCOUNT 100,5 DEMO 9 2\nACCOUNT 1,2 A 1 0\nEND\n")
    ≡ Yields (record {
      blocks = 8;
      accounts = entries ++ record {
        account = record { project = 1; programmer = 2 };
        password = codes "A";
        limit = 1;
        quota = 0;
      } ∷ [];
      files = [];
      terminals = [];
    })
unfolding digits verdict reading whole_lines cut_line behind_line behind_form form_at version_in disk_in account_in texts_in file_in file_texts_in groups_in contents_in session_in terminal_in keys_in block_in end_in is_hex hex_bytes same_name
quotas_are_told = refl

beyond_a_quota : verdict (second ++ codes "ACCOUNT 100,5 DEMO 100 1\nFILE [100,5]A<60> 2\n") ≡ Refuses 4 Space
unfolding digits verdict reading whole_lines cut_line behind_line behind_form form_at version_in disk_in account_in texts_in file_in file_texts_in groups_in contents_in session_in terminal_in keys_in block_in end_in is_hex hex_bytes same_name
beyond_a_quota = refl

beyond_a_quota_by_the_second : verdict (second ++ codes "ACCOUNT 100,5 DEMO 100 3\nFILE [100,5]A<60> 2\nFILE [100,5]B<60> 2\n") ≡ Refuses 5 Space
unfolding digits verdict reading whole_lines cut_line behind_line behind_form form_at version_in disk_in account_in texts_in file_in file_texts_in groups_in contents_in session_in terminal_in keys_in block_in end_in is_hex hex_bytes same_name pages_of
beyond_a_quota_by_the_second = refl

each_has_its_own_quota : verdict (second ++ codes "ACCOUNT 100,5 DEMO 100 1\nACCOUNT 1,2 A 9 1\nFILE [100,5]A<60> 1\nFILE [1,2]A<60> 1\n") ≡ Refuses 7 Cut
unfolding digits verdict reading whole_lines cut_line behind_line behind_form form_at version_in disk_in account_in texts_in file_in file_texts_in groups_in contents_in session_in terminal_in keys_in block_in end_in is_hex hex_bytes same_name pages_of
each_has_its_own_quota = refl

no_quota : verdict (second ++ codes "ACCOUNT 100,5 DEMO 100\n") ≡ Refuses 3 Shape
unfolding digits verdict reading whole_lines cut_line behind_line behind_form form_at version_in disk_in account_in texts_in file_in file_texts_in groups_in contents_in session_in terminal_in keys_in block_in end_in is_hex hex_bytes same_name
no_quota = refl

quota_out_of_range : verdict (second ++ codes "ACCOUNT 100,5 DEMO 100 16385\n") ≡ Refuses 3 Range
unfolding digits verdict reading whole_lines cut_line behind_line behind_form form_at version_in disk_in account_in texts_in file_in file_texts_in groups_in contents_in session_in terminal_in keys_in block_in end_in is_hex hex_bytes same_name
quota_out_of_range = refl

quota_with_a_leading_zero : verdict (second ++ codes "ACCOUNT 100,5 DEMO 100 01\n") ≡ Refuses 3 Shape
unfolding digits verdict reading whole_lines cut_line behind_line behind_form form_at version_in disk_in account_in texts_in file_in file_texts_in groups_in contents_in session_in terminal_in keys_in block_in end_in is_hex hex_bytes same_name
quota_with_a_leading_zero = refl

quota_in_version_one : verdict (codes "RSTS-DECK 1\nDISK 8\nACCOUNT 100,5 DEMO 100 1\n") ≡ Refuses 3 Shape
unfolding digits verdict reading whole_lines cut_line behind_line behind_form form_at version_in disk_in account_in texts_in file_in file_texts_in groups_in contents_in session_in terminal_in keys_in block_in end_in is_hex hex_bytes same_name
quota_in_version_one = refl

small_letters_in_version_two : verdict (second ++ codes "ACCOUNT 100,5 DEMO 9 2\nFILE [100,5]a<60> 1\n") ≡ Refuses 4 Shape
unfolding digits verdict reading whole_lines cut_line behind_line behind_form form_at version_in disk_in account_in texts_in file_in file_texts_in groups_in contents_in session_in terminal_in keys_in block_in end_in is_hex hex_bytes same_name
small_letters_in_version_two = refl

a_code_too_great_in_version_two : verdict (second ++ codes "ACCOUNT 100,5 DEMO 9 2\nFILE [100,5]A<64> 1\n") ≡ Refuses 4 Range
unfolding digits verdict reading whole_lines cut_line behind_line behind_form form_at version_in disk_in account_in texts_in file_in file_texts_in groups_in contents_in session_in terminal_in keys_in block_in end_in is_hex hex_bytes same_name
a_code_too_great_in_version_two = refl

a_long_extension_in_version_one : verdict (front ++ codes "FILE [100,5]A.ABCD<60> 1\n") ≡ Refuses 4 Range
unfolding digits verdict reading whole_lines cut_line behind_line behind_form form_at version_in disk_in account_in texts_in file_in file_texts_in groups_in contents_in session_in terminal_in keys_in block_in end_in is_hex hex_bytes same_name
a_long_extension_in_version_one = refl

no_stem_in_version_one : verdict (front ++ codes "FILE [100,5].B<60> 1\n") ≡ Refuses 4 Range
unfolding digits verdict reading whole_lines cut_line behind_line behind_form form_at version_in disk_in account_in texts_in file_in file_texts_in groups_in contents_in session_in terminal_in keys_in block_in end_in is_hex hex_bytes same_name
no_stem_in_version_one = refl

a_block_in_version_one : verdict (front ++ codes "FILE [100,5]A<60> 1\n=00\n") ≡ Refuses 5 Shape
unfolding digits verdict reading whole_lines cut_line behind_line behind_form form_at version_in disk_in account_in texts_in file_in file_texts_in groups_in contents_in session_in terminal_in keys_in block_in end_in is_hex hex_bytes same_name
a_block_in_version_one = refl

-- version 3

abbrev third : List ℕ
third = codes "RSTS-DECK 3\nDISK 2\nACCOUNT 100,5 DEMO 9 2\n"

-- a file with a text and a block, a name that has no stem, and the largest code
lines_of_both_kinds : verdict (third ++ codes "FILE [100,5].Basic7<255> 2\n>10 END\n=0aff\nEND\n")
    ≡ Yields (record {
      blocks = 2;
      accounts = entries;
      files = file_entry (record {
        name = record { owner = owner; stem = []; extension = codes "Basic7" };
        code = 255;
        blocks = 2;
        content = codes "10 END\r\n" ++ block_of (10 ∷ 255 ∷ []);
      }) ∷ [];
      terminals = [];
    })
unfolding digits verdict reading whole_lines cut_line behind_line behind_form form_at version_in disk_in account_in texts_in file_in file_texts_in groups_in contents_in session_in terminal_in keys_in block_in end_in is_hex hex_bytes same_name
lines_of_both_kinds = refl

no_quota_in_version_three : verdict (codes "RSTS-DECK 3\nDISK 2\nACCOUNT 100,5 DEMO 9\n") ≡ Refuses 3 Shape
unfolding digits verdict reading whole_lines cut_line behind_line behind_form form_at version_in disk_in account_in texts_in file_in file_texts_in groups_in contents_in session_in terminal_in keys_in block_in end_in is_hex hex_bytes same_name
no_quota_in_version_three = refl

a_code_too_great : verdict (third ++ codes "FILE [100,5]a<256> 1\n") ≡ Refuses 4 Range
unfolding digits verdict reading whole_lines cut_line behind_line behind_form form_at version_in disk_in account_in texts_in file_in file_texts_in groups_in contents_in session_in terminal_in keys_in block_in end_in is_hex hex_bytes same_name
a_code_too_great = refl

a_code_with_a_leading_zero : verdict (third ++ codes "FILE [100,5]a<060> 1\n") ≡ Refuses 4 Shape
unfolding digits verdict reading whole_lines cut_line behind_line behind_form form_at version_in disk_in account_in texts_in file_in file_texts_in groups_in contents_in session_in terminal_in keys_in block_in end_in is_hex hex_bytes same_name
a_code_with_a_leading_zero = refl

a_long_stem : verdict (third ++ codes "FILE [100,5]abcdefg<60> 1\n") ≡ Refuses 4 Range
unfolding digits verdict reading whole_lines cut_line behind_line behind_form form_at version_in disk_in account_in texts_in file_in file_texts_in groups_in contents_in session_in terminal_in keys_in block_in end_in is_hex hex_bytes same_name
a_long_stem = refl

an_empty_extension : verdict (third ++ codes "FILE [100,5]a.<60> 1\n") ≡ Refuses 4 Range
unfolding digits verdict reading whole_lines cut_line behind_line behind_form form_at version_in disk_in account_in texts_in file_in file_texts_in groups_in contents_in session_in terminal_in keys_in block_in end_in is_hex hex_bytes same_name
an_empty_extension = refl

names_that_differ_in_case : verdict (third ++ codes "FILE [100,5]a<60> 1\nFILE [100,5]A<60> 1\nFILE [100,5]a<60> 0\n") ≡ Refuses 6 Double
unfolding digits verdict reading whole_lines cut_line behind_line behind_form form_at version_in disk_in account_in texts_in file_in file_texts_in groups_in contents_in session_in terminal_in keys_in block_in end_in is_hex hex_bytes same_name pages_of
names_that_differ_in_case = refl

an_odd_number_of_digits : verdict (third ++ codes "FILE [100,5]a<60> 1\n=0\n") ≡ Refuses 5 Shape
unfolding digits verdict reading whole_lines cut_line behind_line behind_form form_at version_in disk_in account_in texts_in file_in file_texts_in groups_in contents_in session_in terminal_in keys_in block_in end_in is_hex hex_bytes same_name
an_odd_number_of_digits = refl

capital_digits : verdict (third ++ codes "FILE [100,5]a<60> 1\n=0A\n") ≡ Refuses 5 Shape
unfolding digits verdict reading whole_lines cut_line behind_line behind_form form_at version_in disk_in account_in texts_in file_in file_texts_in groups_in contents_in session_in terminal_in keys_in block_in end_in is_hex hex_bytes same_name
capital_digits = refl

two_blocks_in_one : verdict (third ++ codes "FILE [100,5]a<60> 1\n=0a\n=\n") ≡ Refuses 6 Space
unfolding digits verdict reading whole_lines cut_line behind_line behind_form form_at version_in disk_in account_in texts_in file_in file_texts_in groups_in contents_in session_in terminal_in keys_in block_in end_in is_hex hex_bytes same_name
two_blocks_in_one = refl

a_text_after_a_whole_block : verdict (third ++ codes "FILE [100,5]a<60> 1\n=\n>\n") ≡ Refuses 6 Space
unfolding digits verdict reading whole_lines cut_line behind_line behind_form form_at version_in disk_in account_in texts_in file_in file_texts_in groups_in contents_in session_in terminal_in keys_in block_in end_in is_hex hex_bytes same_name
a_text_after_a_whole_block = refl

a_block_after_a_text : verdict (third ++ codes "FILE [100,5]a<60> 1\n>10 END\n=ff\n") ≡ Refuses 6 Space
unfolding digits verdict reading whole_lines cut_line behind_line behind_form form_at version_in disk_in account_in texts_in file_in file_texts_in groups_in contents_in session_in terminal_in keys_in block_in end_in is_hex hex_bytes same_name
a_block_after_a_text = refl

a_block_after_a_terminal : verdict (third ++ codes "FILE [100,5]a<60> 1\nTERMINAL T1\n=00\n") ≡ Refuses 6 Shape
unfolding digits verdict reading whole_lines cut_line behind_line behind_form form_at version_in disk_in account_in texts_in file_in file_texts_in groups_in contents_in session_in terminal_in keys_in block_in end_in is_hex hex_bytes same_name
a_block_after_a_terminal = refl

version_four : verdict (codes "RSTS-DECK 4\n") ≡ Refuses 1 Version
unfolding digits verdict reading whole_lines cut_line behind_line behind_form form_at version_in disk_in account_in texts_in file_in file_texts_in groups_in contents_in session_in terminal_in keys_in block_in end_in is_hex hex_bytes same_name
version_four = refl

more_than_a_block : verdict (third ++ codes "FILE [100,5]a<60> 1\n=" ++ replicate 1026 48 ++ codes "\n") ≡ Refuses 5 Range
unfolding digits verdict reading whole_lines cut_line behind_line behind_form form_at version_in disk_in account_in texts_in file_in file_texts_in groups_in contents_in session_in terminal_in keys_in block_in end_in is_hex hex_bytes same_name
more_than_a_block = refl
