pub mod Printing
pub mod Printed
