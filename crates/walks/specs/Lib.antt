pub mod AtPlace
